-- The tokens that are left decide.
use Rattle.std.proofs.Common.{◌≡◌, map, drop}
use Rattle.droid_pattern.specs.Patterns.{has_byte}
use Rattle.droid_pattern.specs.Tokens.{element_of}
use Rattle.droid_pattern.proofs.token.any_byte.Given as goal

abbrev pub invariant-loop-token : goal.invariant-loop-token
invariant-loop-token l = has_byte (map element_of (drop l.token-index l.tokens)) ≡ has_byte (map element_of l.tokens)
