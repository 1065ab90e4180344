use Rattle.std.proofs.Common.{◌≡◌, ◌++◌, map, take, drop}
use Rattle.sqlite_trees.specs.Listing.{objects_from}
use Rattle.droid_store_trees.specs.Shown.{heading}
use Rattle.droid_store_trees.proofs.storage.alteration.TreeStoreAlter.objects.Given as goal

abbrev pub invariant-loop-at : goal.invariant-loop-at
invariant-loop-at l = l.rows.items ++ map (take 5) (objects_from l.at (drop l.at (map heading l.trees))) ≡ map (take 5) (objects_from 0 (map heading l.trees))
