use Rattle.std.proofs.Common.{◌≡◌, ◌≤◌, take}
use Rattle.droid_cmd_submit.specs.KnownNodes.{unread_in}
use Rattle.droid_cmd_submit.proofs.known_nodes.unread_in.Given as goal

abbrev pub invariant-loop-node : goal.invariant-loop-node
invariant-loop-node l = record {
  counted : l.count ≡ unread_in (take l.node-index l.nodes);
  few : l.count ≤ l.node-index;
}
