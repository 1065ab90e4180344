-- The bytes that are left decide.
use Rattle.std.proofs.Common.{◌≡◌, ◌≤◌, length}
use Rattle.droid_identity.specs.TextKinds.{is_units}
use Rattle.droid_identity.proofs.units.is_units.Given as goal

abbrev pub invariant-loop-left : goal.invariant-loop-left
invariant-loop-left l = record {
  shrinks : length l.left ≤ length l.initial.left;
  same : is_units l.order l.cut l.after l.bytes ≡ is_units l.order l.cut l.high l.left;
}

abbrev pub decreases-loop-left : goal.decreases-loop-left
decreases-loop-left l = length l.left
