use Rattle.std.proofs.Common.{◌≡◌, ◌==◌, ◌++◌, ◌∷◌, if◌then◌else◌, ap, sym, ◌∙◌, arith, Some, slice_get}
use Rattle.std.specs.Option.{option_copied}
use Rattle.droid_store.proofs.Joined.{joined_more, word_at}
use Rattle.droid_store.proofs.identifiers.join.Goals as goal

pub loop-place-preserved : goal.loop-place-preserved
loop-place-preserved c =
    let word = c.unwrap-word.result.now in
    let found : Some word ≡ slice_get c.args.words.now c.loop-place.place = ap option_copied (sym c.unwrap-word.ensures) ∙ c.get.ensures in
    let more = joined_more c.args.words.now c.loop-place.place word (omega (arith, c.loop-place-test.true)) (word_at c.args.words.now c.loop-place.place word found) in
    c.in_ok-append.ensures ∙ rw c.as_str.ensures.value (ap (λ text. text ++ (if c.loop-place.place == 0 then word else 32 ∷ word)) c.loop-place.invariant ∙ more)
