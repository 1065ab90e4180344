-- When two sets of trees show the same rows, and when one tree was replaced.
use Rattle.std.specs.Prelude.{◌≡◌, ℕ, ◌<◌, length, slice_set}
use Rattle.sqlite_trees.specs.declared.schema.Object.{Object}
use Rattle.sqlite_trees.specs.Objects.{description}
use Rattle.droid_store_trees.specs.declared.tree.Tree.{Tree}
use Rattle.droid_store_trees.specs.declared.forest.Forest.{Forest}
use Rattle.droid_store_trees.specs.Shown.{heading, rows_of, shape_of, shown}

-- both sets of trees show the same rows and descriptions
pub record AreAlike (old new : Forest) : Type 0 where
  pub rows : rows_of new ≡ rows_of old
  pub shapes : shape_of new ≡ shape_of old
  pub shown : shown new ≡ shown old

-- the tree with this number is the new one; missing trees below it were added as absent ones
pub record Replaces (old new : Forest) (tree : ℕ) (it : Tree) : Type 0 where
  pub room : Forest
  pub alike : AreAlike old room
  pub within : tree < length room.trees.items
  pub is : new.trees.items ≡ slice_set room.trees.items tree it
  pub version : new.version ≡ room.version

-- the tree keeps its shape and rows, and has the object's description
pub record Relabels (old new : Forest) (tree : ℕ) (o : Object) : Type 0 where
  pub it : Tree
  pub heading : heading it ≡ (shape_of old tree, o.reals, description o)
  pub rows : it.rows ≡ rows_of old tree
  pub is : new.trees.items ≡ slice_set old.trees.items tree it
  pub version : new.version ≡ old.version
