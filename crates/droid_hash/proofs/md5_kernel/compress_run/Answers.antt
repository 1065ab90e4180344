use Rattle.std.proofs.Common.{◌≡◌, ◌<◌, [], length, slice_index_or, sym, ◌∙◌, ap, arith}
use Rattle.std.proofs.lemmas.List.Sums.{fold_more}
use Rattle.md5.specs.Md5.{compress}
use Rattle.droid_hash.specs.Lanes.{lane, piece}
use Rattle.droid_hash.proofs.md5_kernel.compress_run.Goals as goal

pub each-preserved : goal.each-preserved
each-preserved c = λ j low.
    let run = piece j c.args.runs in
    let more : c.each.i < length run = omega (arith, c.requires j low) in
    c.compress_eight.ensures j low ∙ ap (λ b. compress (lane j c.each.state) b) (c.blocks_at.ensures j low)
    ∙ ap (λ h. compress h (slice_index_or run c.each.i [])) (c.each.invariant j low)
    ∙ sym (fold_more compress (lane j c.args.state.now) run c.each.i [] more)

pub returns : goal.returns
returns c = λ j low.
    let done : c.each.i ≡ c.args.count = omega arith in
    rw done at (c.each.invariant j low)
