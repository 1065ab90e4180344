-- What the rest spells completes what the digits spell.
use Rattle.std.proofs.Common.{length}
use Rattle.droid_pattern.proofs.TextLemmas.{BytesLeft}
use Rattle.droid_pattern.proofs.parser.alternative_of.Given as goal

abbrev pub invariant-loop-rest : goal.invariant-loop-rest
invariant-loop-rest l = BytesLeft l.digits l.bytes.items l.rest

abbrev pub decreases-loop-rest : goal.decreases-loop-rest
decreases-loop-rest l = length l.rest
