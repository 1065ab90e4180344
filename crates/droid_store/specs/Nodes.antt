-- The node that a `NewNode` of the code is.
use Rattle.std.specs.Prelude.{ℤ}
use Rattle.droid_store.specs.declared.change.NewNode.{NewNode}
use Rattle.droid_store.specs.Changes.{new_node}
use Rattle.droid_store.specs.Rows.{Node}

-- the node of a new folder or file, before anything is found in it
abbrev pub node_of : NewNode → ℤ → Node
node_of n modified = new_node n.profile n.id n.parent modified n.state n.size n.piece_size n.name.now n.path.now
