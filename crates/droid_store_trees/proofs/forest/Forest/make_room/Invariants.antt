use Rattle.std.proofs.Common.{◌+◌, ◌-◌, vec_len}
use Rattle.droid_store_trees.specs.Alike.{AreAlike}
use Rattle.droid_store_trees.proofs.forest.Forest.make_room.Given as goal

abbrev pub invariant-loop-alloc : goal.invariant-loop-alloc
invariant-loop-alloc l = AreAlike l.fn.self l.self

abbrev pub decreases-loop-alloc : goal.decreases-loop-alloc
decreases-loop-alloc l = l.tree + 1 - vec_len l.self.trees
