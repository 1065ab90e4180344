-- what fitted at first fits after the calls so far, and each turn took one entry at most and left less
use Rattle.std.proofs.Common.{◌+◌, ◌≤◌}
use Rattle.droid_profile.specs.ScanFits.{AddsFew, Takes}
use Rattle.droid_profile.specs.StepsTaken.{scan_left}
use Rattle.droid_profile.proofs.walk.entry_order.take_rows.Given as goal

abbrev pub invariant-loop : goal.invariant-loop
invariant-loop g l = record {
  takes : Takes g.T.Tree.observes l.fn.scan l.scan l.fn.rows.items l.rows.items l.fn.files.items l.files.items l.fn.tree l.tree;
  most : l.counter ≤ 8192;
  less : l.counter + scan_left l.scan ≤ scan_left l.fn.scan;
  few : AddsFew l.counter l.fn.scan l.scan l.fn.rows.items l.rows.items;
}
