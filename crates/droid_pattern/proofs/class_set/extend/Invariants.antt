-- The bit set is that of the class, and has a word for each turn.
use Rattle.std.proofs.Common.{◌≡◌, length}
use Rattle.droid_pattern.specs.Positions.{IsSetOf}
use Rattle.droid_pattern.proofs.class_set.extend.Given as goal

abbrev pub invariant-loop-place : goal.invariant-loop-place
invariant-loop-place l = IsSetOf l.direction l.bytes l.class l.bits × (length l.bits ≡ l.place)
