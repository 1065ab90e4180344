-- What the rest spells completes what the text spells.
use Rattle.std.proofs.Common.{length, map}
use Rattle.droid_pattern.specs.Tokens.{element_of}
use Rattle.droid_pattern.proofs.FrontLemmas.{TokensLeft}
use Rattle.droid_pattern.proofs.parser.tokens_of.Given as goal

abbrev pub invariant-loop-rest : goal.invariant-loop-rest
invariant-loop-rest l = TokensLeft l.text (map element_of l.tokens.items) l.rest

abbrev pub decreases-loop-rest : goal.decreases-loop-rest
decreases-loop-rest l = length l.rest
