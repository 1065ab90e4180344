use Rattle.droid_profile.proofs.SomeNodes.{tree_nodes}
use Rattle.droid_profile.proofs.laws.each_tree_has_a_profile.Goals as goal

pub returns : goal.returns
returns c = λ visits are. let some = tree_nodes visits are in (some.nodes, some.are)
