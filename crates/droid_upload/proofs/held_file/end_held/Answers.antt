use Rattle.std.proofs.Common.{sym, ◌∙◌}
use Rattle.droid_upload.specs.Deeds.{Does}
use Rattle.droid_upload.proofs.HeldFiles.{held_unchecked}
use Rattle.droid_upload.proofs.held_file.end_held.Goals as goal

pub returns-clause-held : goal.returns-clause-held
returns-clause-held g c =
    held_unchecked c.args.into c.args.path.now c.args.entry.now c.args.number c.args.found.now (Does g.T.Tree.observes g.C.Client.calls g.W.Watcher.hears) c.hash_of_held-read.result c.report_end.result c.args.upload.now c.report_end.new.upload
    (sym c.is_checked.ensures ∙ c.if-is_checked.false) c.hash_of_held-read.ensures c.report_end.ensures.informed c.report_end.ensures.uploaded
