-- Paths in a tree (this project's own).
use Rattle.std.specs.Prelude.{ℕ, List, [], ◌∷◌, ◌++◌}
use Rattle.droid_tree.specs.declared.pending_folder.PendingFolder.{PendingFolder}

-- the path of an entry: its folder's path, `/` and its name
abbrev pub below : List ℕ → List ℕ → List ℕ
below path name = path ++ 47 ∷ name

-- the top of the tree, which has no node
abbrev pub top : PendingFolder
top = record { path = []; number = 0 }
