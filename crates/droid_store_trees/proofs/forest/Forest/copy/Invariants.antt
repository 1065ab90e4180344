use Rattle.std.proofs.Common.{◌≡◌, take, map}
use Rattle.droid_store_trees.specs.Shown.{heading}
use Rattle.droid_store_trees.proofs.forest.Forest.copy.Given as goal

abbrev pub invariant-loop-tree : goal.invariant-loop-tree
invariant-loop-tree l =
    (map heading l.trees.items ≡ map heading (take l.tree-index l.self.trees.items))
    × (map (λ t. t.rows) l.trees.items ≡ map (λ t. t.rows) (take l.tree-index l.self.trees.items))
