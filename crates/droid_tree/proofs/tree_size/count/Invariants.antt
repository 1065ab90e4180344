use Rattle.std.proofs.Common.{◌+◌, ◌≤◌}
use Rattle.droid_tree.proofs.Tallies.{CountingTree}
use Rattle.droid_tree.proofs.tree_size.count.Given as goal

abbrev pub invariant-loop : goal.invariant-loop
invariant-loop g l = record {
  counts : CountingTree g.T.Tree.observes l.counted l.pending.items l.fn.tree l.tree;
  within : l.counted.folders + l.counted.files ≤ l.limit;
}
