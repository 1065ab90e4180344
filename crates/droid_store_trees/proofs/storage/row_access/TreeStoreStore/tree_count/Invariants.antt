use Rattle.std.proofs.Common.{ℕ, ◌^◌, ◌<◌, ◌≤◌}
use Rattle.sqlite_trees.specs.Tree.{IsIndexShape}
use Rattle.droid_store_trees.specs.Shown.{view}
use Rattle.droid_store_trees.proofs.storage.row_access.TreeStoreStore.tree_count.Given as goal

abbrev pub invariant-loop-count : goal.invariant-loop-count
invariant-loop-count l = (l.count ≤ 2 ^ 32) × ((t : ℕ) → l.count ≤ t → t < 2 ^ 32 → ¬ IsIndexShape ((view l.self).shape t))

abbrev pub decreases-loop-count : goal.decreases-loop-count
decreases-loop-count l = l.count
