use Rattle.std.proofs.Common.{◌≡◌, ◌+◌, ◌%◌, List, ℕ, arith, refl}
use Rattle.droid_hash.proofs.Schedule.{words_set}
use Rattle.droid_hash.proofs.Steps.{word_lane}
use Rattle.droid_hash.proofs.sha256_kernel.next_word.Goals as goal

pub returns-clause-value : goal.returns-clause-value
returns-clause-value c = λ j low.
    let at : c.args.place % 16 ≡ c.args.place = omega arith in
    let w : List (List ℕ) = c.args.w.now in
    let p : ℕ = c.args.place in
    rw (
      at,
      c.sum-word.ensures j low,
      c.sum.ensures j low,
      c.sum-low.ensures j low,
      c.small_sigma1_lanes.ensures j low,
      c.small_sigma0_lanes.ensures j low,
      word_lane j w ((p + 14) % 16),
      word_lane j w ((p + 9) % 16),
      word_lane j w ((p + 1) % 16),
      word_lane j w p,
    )
    refl

pub returns-clause-window : goal.returns-clause-window
returns-clause-window c = λ j low. words_set j c.args.w.now c.args.place c.sum-word.result
