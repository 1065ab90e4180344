use Rattle.droid_cmd_submit.proofs.Keeping.{all_kept}
use Rattle.droid_cmd_submit.proofs.laws.recorder_keeps_what_was_skipped.Goals as goal

pub returns : goal.returns
returns g c = λ deeds old new goes all. all_kept g.T.Tree.observes g.C.Client.calls g.W.Watcher.hears deeds old new goes all
