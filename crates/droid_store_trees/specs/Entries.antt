-- The rows of a tree, from left to right.
use Rattle.std.specs.Prelude.{◌≡◌, ◌+◌, List, [], ◌∷◌, ◌++◌, length}
use Rattle.sqlite_value.specs.Order.{Row}
use Rattle.droid_store_trees.specs.declared.node.Node.{Node, Empty, Fork'}

-- the rows of a tree, from left to right
abbrev pub rows : Node → List Row
rows Empty = []
rows (Fork' p left row right len) = rows left ++ row.value ∷ rows right

-- each node counts the rows below it, its own included
abbrev pub IsCounted : Node → Type 0
IsCounted Empty = Unit {0}
IsCounted (Fork' p left row right len) =
    IsCounted left × IsCounted right × (len ≡ length (rows left) + 1 + length (rows right))
