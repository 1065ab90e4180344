-- What the rest spells completes what the text spells.
use Rattle.std.proofs.Common.{length, map}
use Rattle.droid_signature_pattern.specs.TermValues.{term_of}
use Rattle.droid_signature_pattern.proofs.TermFronts.{TermsLeft}
use Rattle.droid_signature_pattern.proofs.parser.read_text.Given as goal

abbrev pub invariant-loop-rest : goal.invariant-loop-rest
invariant-loop-rest l = TermsLeft l.text (map term_of l.terms.items) l.rest

abbrev pub decreases-loop-rest : goal.decreases-loop-rest
decreases-loop-rest l = length l.rest
