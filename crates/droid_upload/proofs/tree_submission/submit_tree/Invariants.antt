use Rattle.droid_upload.specs.Deeds.{Does}
use Rattle.droid_upload.proofs.TreeSubmitted.{Submitting}
use Rattle.droid_upload.proofs.tree_submission.submit_tree.Given as goal

abbrev pub invariant-loop : goal.invariant-loop
invariant-loop g l = Submitting (Does g.T.Tree.observes g.C.Client.calls g.W.Watcher.hears) l.options l.profile l.counter l.whole l.found l.fn.upload l.upload
