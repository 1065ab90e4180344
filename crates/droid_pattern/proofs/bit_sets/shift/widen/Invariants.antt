-- The places up to so far behind are in.
use Rattle.std.proofs.Common.{◌-◌, ◌≡◌, ◌≤◌, length}
use Rattle.droid_pattern.specs.Places.{Moves}
use Rattle.droid_pattern.proofs.bit_sets.shift.widen.Given as goal

abbrev pub invariant-loop-done : goal.invariant-loop-done
invariant-loop-done l = (length l.words ≡ length l.fn.words) × (l.done ≤ l.most) × Moves l.fn.words l.words 0 l.done

abbrev pub decreases-loop-done : goal.decreases-loop-done
decreases-loop-done l = l.most - l.done
