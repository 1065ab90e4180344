-- The bits so far say which bytes pass.
use Rattle.std.proofs.Common.{◌≡◌, ◌+◌, true}
use Rattle.droid_pattern.specs.Tokens.{accepts}
use Rattle.droid_pattern.specs.Positions.{byte_behind}
use Rattle.droid_pattern.proofs.ClassLemmas.{HasBitsOf}
use Rattle.droid_pattern.proofs.class_set.word_by_byte.Given as goal

abbrev pub invariant-loop-i : goal.invariant-loop-i
invariant-loop-i l = HasBitsOf (λ i. accepts l.class (byte_behind l.direction l.bytes (l.start + i)) ≡ true) l.i l.word
