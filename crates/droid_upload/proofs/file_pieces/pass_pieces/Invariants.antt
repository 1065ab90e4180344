use Rattle.droid_upload.specs.Deeds.{Does}
use Rattle.droid_upload.specs.Steps.{PassesFront}
use Rattle.droid_upload.proofs.file_pieces.pass_pieces.Given as goal

abbrev pub invariant-loop-index : goal.invariant-loop-index
invariant-loop-index g l = PassesFront l.to l.path l.entry (Does g.T.Tree.observes g.C.Client.calls g.W.Watcher.hears) l.index l.fn.running l.running l.fn.upload l.upload
