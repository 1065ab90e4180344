use Rattle.std.proofs.Common.{◌≡◌}
use Rattle.droid_cmd_submit.specs.KnownNodes.{known_of_nodes}
use Rattle.droid_cmd_submit.proofs.known_nodes.known_of_nodes.Given as goal

abbrev pub invariant-loop-node : goal.invariant-loop-node
invariant-loop-node l = l.known.items ≡ known_of_nodes l.yielded
