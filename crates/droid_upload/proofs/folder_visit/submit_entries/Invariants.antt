use Rattle.std.proofs.Common.{take}
use Rattle.droid_upload.specs.SubmissionSteps.{TakesKids}
use Rattle.droid_upload.specs.Deeds.{Does}
use Rattle.droid_upload.proofs.folder_visit.submit_entries.Given as goal

abbrev pub invariant-loop-entry : goal.invariant-loop-entry
invariant-loop-entry g l = TakesKids (Does g.T.Tree.observes g.C.Client.calls g.W.Watcher.hears) l.into l.folder (take l.entry-index l.entries) l.all l.fn.upload l.upload l.fn.found l.found
