use Rattle.std.proofs.Common.{◌≤◌}
use Rattle.droid_upload.specs.Deeds.{Does}
use Rattle.droid_upload.proofs.Openings.{FindsAllGone}
use Rattle.droid_upload.proofs.file_opening.add_again.Given as goal

abbrev pub invariant-loop-attempt : goal.invariant-loop-attempt
invariant-loop-attempt g l = record {
  all : FindsAllGone l.into l.path l.entry (Does g.T.Tree.observes g.C.Client.calls g.W.Watcher.hears) l.attempt l.fn.upload l.upload;
  below : l.attempt ≤ 4294967294;
}
