-- What the rest has up to the closing parenthesis completes what the text has.
use Rattle.std.proofs.Common.{length, map}
use Rattle.droid_signature_pattern.specs.TermValues.{atom_of}
use Rattle.droid_signature_pattern.proofs.TermFronts.{AlternativesLeft}
use Rattle.droid_signature_pattern.proofs.parser.alternatives_of.Given as goal

abbrev pub invariant-loop-alternatives : goal.invariant-loop-alternatives
invariant-loop-alternatives l = AlternativesLeft l.text (map (λ items. map atom_of items.items) l.alternatives.items) l.rest

abbrev pub decreases-loop-alternatives : goal.decreases-loop-alternatives
decreases-loop-alternatives l = length l.rest
