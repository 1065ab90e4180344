use Rattle.std.proofs.Common.{map, take}
use Rattle.droid_tree.specs.Observation.{GoesOver}
use Rattle.droid_upload.specs.FolderVisits.{report_repeated}
use Rattle.droid_upload.specs.Deeds.{Does}
use Rattle.droid_upload.proofs.folder_visit.report_all.Given as goal

abbrev pub invariant-loop-entry : goal.invariant-loop-entry
invariant-loop-entry g l = GoesOver (Does g.T.Tree.observes g.C.Client.calls g.W.Watcher.hears) l.fn.upload (map (report_repeated l.folder.path) (take l.entry-index l.repeated)) l.upload
