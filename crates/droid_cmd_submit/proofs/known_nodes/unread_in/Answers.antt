use Rattle.std.proofs.Common.{arith}
use Rattle.droid_cmd_submit.proofs.Counting.{one_at_most, unread_all, unread_more}
use Rattle.droid_cmd_submit.proofs.known_nodes.unread_in.Goals as goal

pub loop-node-preserved : goal.loop-node-preserved
loop-node-preserved c = record {
  counted = unread_more c.args.nodes.now c.loop-node.node-index c.node-item.result c.loop-node.count c.one_if-count.result c.loop-node.invariant.counted c.one_if-count.ensures c.loop-node-test.true c.node-item.is;
  few = omega (arith, c.loop-node.invariant.few, c.one_if-count.ensures, one_at_most c.node-item.result);
}

pub returns : goal.returns
returns c = unread_all c.args.nodes.now c.loop-node.node-index c.loop-node.count c.loop-node.invariant.counted c.loop-node-test.false
