-- All words.
use Rattle.std.proofs.Common.{arith}
use Rattle.droid_pattern.proofs.SetLemmas.{keeps_all}
use Rattle.droid_pattern.proofs.bit_sets.combination.keep_words.Goals as goal

pub returns-clause-both : goal.returns-clause-both
returns-clause-both c = keeps_all c.args.words.now c.loop-place.words c.args.others.now c.loop-place.invariant.0 (λ j h. c.loop-place.invariant.1 j (omega arith))
