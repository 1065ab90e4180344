-- Where the word of the first place is there, and where it isn't.
use Rattle.std.proofs.Common.{arith}
use Rattle.droid_pattern.proofs.RangeLemmas.{front_cleared, front_gone}
use Rattle.droid_pattern.proofs.bit_sets.run.clear_before.Goals as goal

pub returns-then-first-words-clause-places : goal.returns-then-first-words-clause-places
returns-then-first-words-clause-places c = λ p.
    front_cleared c.args.words.now c.loop-place.words c.args.first c.run_of.result p (omega (arith, c.if-first-words.true))
    (λ j h. c.loop-place.invariant.1 j (omega (arith, c.loop-place-test.false, c.min-place-end.ensures, c.loop-place.auto.place-end, c.if-first-words.true)))
    (λ j h. c.loop-place.invariant.2 j (omega (arith, c.loop-place.auto.place-end, c.min-place-end.ensures)))
    c.run_of.ensures

pub returns-else-first-words-clause-places : goal.returns-else-first-words-clause-places
returns-else-first-words-clause-places c = λ p.
    front_gone c.args.words.now c.loop-place.words c.args.first p c.loop-place.invariant.0 (omega (arith, c.if-first-words.false))
    (λ j h. c.loop-place.invariant.1 j (omega (arith, c.loop-place-test.false, c.min-place-end.ensures, c.if-first-words.false, c.loop-place.invariant.0)))
