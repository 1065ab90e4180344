use Rattle.droid_upload.specs.Deeds.{Does}
use Rattle.droid_upload.proofs.Additions.{empty_seen_by}
use Rattle.droid_upload.proofs.file_upload.see_empty.Goals as goal

pub returns-in_default-clause-seen : goal.returns-in_default-clause-seen
returns-in_default-clause-seen g c =
    empty_seen_by c.args.path.now c.args.entry.now (Does g.T.Tree.observes g.C.Client.calls g.W.Watcher.hears) c.in_ok-why.field-0 c.args.upload.now c.see_last.new.upload c.in_default.not-Stopped c.if-entry-ne0.false c.in_ok-why.ensures.seen
