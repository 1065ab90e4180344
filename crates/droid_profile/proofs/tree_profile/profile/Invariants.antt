-- all that was taken was read and handed out
use Rattle.std.specs.Prelude.{◌≡◌, []}
use Rattle.droid_profile.specs.LaneSteps.{IsFor}
use Rattle.droid_profile.specs.StepsTaken.{scan_left}
use Rattle.droid_profile.specs.Walking.{StandsAt}
use Rattle.droid_profile.proofs.tree_profile.profile.Given as goal

abbrev pub invariant-batches : goal.invariant-batches
invariant-batches g l = record {
  made : IsFor l.options l.batch;
  no_rows : l.rows.items ≡ [];
  no_files : l.batch.files.items ≡ [];
  stands : StandsAt g.T.Tree.observes g.W.Watcher.hears g.R.Recipient.takes l.registry l.options l.whole l.scan [] [] l.fn.profiler.tree l.profiler.tree l.fn.profiler.watcher l.profiler.watcher l.fn.profiler.recipient l.profiler.recipient;
}

abbrev pub decreases-batches : goal.decreases-batches
decreases-batches g l = scan_left l.scan
