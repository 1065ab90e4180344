-- The first positions have a fragment each.
use Rattle.std.proofs.Common.{◌≡◌, ◌<◌, ◌≤◌, true, ℕ}
use Rattle.droid_signature_pattern.specs.Positions.{has_position}
use Rattle.droid_signature_pattern.proofs.positions.see_each.Given as goal

abbrev pub invariant-loop-inner : goal.invariant-loop-inner
invariant-loop-inner l = (position : ℕ) → 0 < position → position ≤ l.inner → has_position position l.fragments ≡ true
