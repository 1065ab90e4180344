use Rattle.std.proofs.Common.{map, refl}
use Rattle.droid_upload.specs.FolderVisits.{report_repeated}
use Rattle.droid_upload.specs.Deeds.{Does}
use Rattle.droid_upload.specs.Fronts.{AreJust, EndsEarly}
use Rattle.droid_upload.proofs.FaultPassed.{if_err_same}
use Rattle.droid_upload.proofs.FolderVisited.{all_reported, more_reported, report_ends}
use Rattle.droid_upload.proofs.folder_visit.report_all.Goals as goal

pub loop-entry-init : goal.loop-entry-init
loop-entry-init g c = refl

pub loop-entry-preserved : goal.loop-entry-preserved
loop-entry-preserved g c =
    more_reported (Does g.T.Tree.observes g.C.Client.calls g.W.Watcher.hears) c.args.folder.now c.args.repeated.now c.loop-entry.entry-index c.args.upload.now c.loop-entry.upload c.loop-entry.invariant c.entry-item.result c.report_below.new.upload c.in_ok-report_below.ensures.reported
    c.loop-entry-test.true c.entry-item.is

pub returns-in_err-report_below-clause-ended : goal.returns-in_err-report_below-clause-ended
returns-in_err-report_below-clause-ended g c =
    if_err_same c.from_residual.result c.in_err-report_below.field-0.0 (λ fault. EndsEarly (Does g.T.Tree.observes g.C.Client.calls g.W.Watcher.hears) (AreJust (map (report_repeated c.args.folder.now.path) c.args.repeated.now)) fault c.args.upload.now c.report_below.new.upload) c.from_residual.ensures.1
    (report_ends (Does g.T.Tree.observes g.C.Client.calls g.W.Watcher.hears) c.args.folder.now c.args.repeated.now c.loop-entry.entry-index c.args.upload.now c.loop-entry.upload c.loop-entry.invariant c.in_err-report_below.field-0.0 c.report_below.new.upload c.in_err-report_below.ensures.memory c.in_err-report_below.ensures.same)

pub returns-clause-reported : goal.returns-clause-reported
returns-clause-reported g c = all_reported (Does g.T.Tree.observes g.C.Client.calls g.W.Watcher.hears) c.args.folder.now c.args.repeated.now c.loop-entry.entry-index c.args.upload.now c.loop-entry.upload c.loop-entry.invariant c.loop-entry-test.false
