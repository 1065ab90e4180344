use Rattle.droid_upload.specs.SubmissionSteps.{AreOfFirst}
use Rattle.droid_upload.specs.Deeds.{Does}
use Rattle.droid_upload.specs.Fronts.{EndsEarly}
use Rattle.droid_upload.proofs.EntriesTaken.{all_taken, entry_ends, more_taken, none_taken}
use Rattle.droid_upload.proofs.FaultPassed.{if_err_same}
use Rattle.droid_upload.proofs.folder_visit.submit_entries.Goals as goal

pub loop-entry-init : goal.loop-entry-init
loop-entry-init g c = none_taken (Does g.T.Tree.observes g.C.Client.calls g.W.Watcher.hears) c.args.into c.args.folder.now c.args.upload.now c.args.found.now

pub loop-entry-preserved : goal.loop-entry-preserved
loop-entry-preserved g c =
    more_taken (Does g.T.Tree.observes g.C.Client.calls g.W.Watcher.hears) c.args.into c.args.folder.now c.args.entries.now c.loop-entry.entry-index c.entry-item.result c.args.upload.now c.loop-entry.upload c.submit_entry.new.upload c.args.found.now c.loop-entry.found c.loop-entry.all
    c.loop-entry.invariant c.loop-entry-test.true c.entry-item.is _ _ _ c.in_ok-taken.ensures.taken c.both-all.ensures

pub returns-in_err-taken-clause-ended : goal.returns-in_err-taken-clause-ended
returns-in_err-taken-clause-ended g c =
    if_err_same c.from_residual.result c.in_err-taken.field-0.0 (λ fault. EndsEarly (Does g.T.Tree.observes g.C.Client.calls g.W.Watcher.hears) (AreOfFirst c.args.into c.args.folder.now.path c.args.entries.now) fault c.args.upload.now c.submit_entry.new.upload) c.from_residual.ensures.1
    (entry_ends (Does g.T.Tree.observes g.C.Client.calls g.W.Watcher.hears) c.args.into c.args.folder.now c.args.entries.now c.loop-entry.entry-index c.entry-item.result c.args.upload.now c.loop-entry.upload c.submit_entry.new.upload c.args.found.now c.loop-entry.found c.loop-entry.all
    c.loop-entry.invariant c.loop-entry-test.true c.entry-item.is c.in_err-taken.field-0.0 c.in_err-taken.ensures.ended)

pub returns-clause-taken : goal.returns-clause-taken
returns-clause-taken g c = all_taken (Does g.T.Tree.observes g.C.Client.calls g.W.Watcher.hears) c.args.into c.args.folder.now c.args.entries.now c.loop-entry.entry-index c.loop-entry.all c.args.upload.now c.loop-entry.upload c.args.found.now c.loop-entry.found c.loop-entry.invariant c.loop-entry-test.false
