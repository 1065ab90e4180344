use Rattle.std.proofs.Common.{◌≡◌, take}
use Rattle.sqlite_trees.specs.Objects.{Relists}
use Rattle.droid_store_trees.specs.Shown.{view}
use Rattle.droid_store_trees.proofs.Altering.{with_forest}
use Rattle.droid_store_trees.proofs.storage.alteration.TreeStoreAlter.relist.Given as goal

abbrev pub invariant-loop-tree : goal.invariant-loop-tree
invariant-loop-tree l = Relists (view l.fn.self) (view (with_forest l.fn.self l.forest)) (take l.tree-index l.changes) × (l.self ≡ l.fn.self)
