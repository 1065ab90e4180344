-- What the rest spells completes what the body spells.
use Rattle.std.proofs.Common.{length, map}
use Rattle.droid_pattern.proofs.TextLemmas.{ChoiceLeft}
use Rattle.droid_pattern.proofs.parser.choice_of.Given as goal

abbrev pub invariant-loop-first : goal.invariant-loop-first
invariant-loop-first l = ChoiceLeft l.body (map (λ v. v.items) l.alternatives.items) l.rest

abbrev pub decreases-loop-first : goal.decreases-loop-first
decreases-loop-first l = length l.rest
