-- All words.
use Rattle.std.proofs.Common.{arith}
use Rattle.droid_pattern.proofs.SetLemmas.{joins_all}
use Rattle.droid_pattern.proofs.bit_sets.combination.join_words.Goals as goal

pub returns-clause-either : goal.returns-clause-either
returns-clause-either c = joins_all c.args.words.now c.loop-place.words c.args.others.now (λ j h. c.loop-place.invariant.1 j (omega arith)) (λ j h. c.loop-place.invariant.2 j (omega (arith, c.loop-place.auto.place-end)))
