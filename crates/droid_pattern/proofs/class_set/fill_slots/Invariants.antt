-- The sets are those of their classes.
use Rattle.std.proofs.Common.{◌-◌, length}
use Rattle.droid_pattern.specs.Positions.{AreSetsOf}
use Rattle.droid_pattern.proofs.class_set.fill_slots.Given as goal

abbrev pub invariant-loop-alloc : goal.invariant-loop-alloc
invariant-loop-alloc l = AreSetsOf l.fn.direction l.bytes l.sets.items

abbrev pub decreases-loop-alloc : goal.decreases-loop-alloc
decreases-loop-alloc l = l.count - length l.sets.items
