use Rattle.std.proofs.Common.{sym, subst}
use Rattle.droid_upload.specs.Deeds.{Does}
use Rattle.droid_upload.specs.FileOutcomes.{AreOfFile}
use Rattle.droid_upload.specs.Fronts.{EndsEarly, Stands}
use Rattle.droid_upload.specs.declared.submission_fault.SubmissionFault.{SubmissionFault}
use Rattle.droid_upload.proofs.Additions.{upload_added, upload_ends, upload_unread, upload_unseen}
use Rattle.droid_upload.proofs.Passing.{if_err_same}
use Rattle.droid_upload.proofs.file_upload.upload_file.Goals as goal

pub returns-in_err-see_empty-clause-ended : goal.returns-in_err-see_empty-clause-ended
returns-in_err-see_empty-clause-ended g c =
    let does = Does g.T.Tree.observes g.C.Client.calls g.W.Watcher.hears in
    let fault = c.in_err-see_empty.field-0.0 in
    let memory = c.in_err-see_empty.ensures.memory in
    if_err_same c.from_residual.result fault (λ f. EndsEarly does (AreOfFile c.args.into c.args.path.now c.args.entry.now) f c.args.upload.now c.see_empty.new.upload) c.from_residual.ensures.1
    (upload_unseen c.args.into c.args.path.now c.args.entry.now does fault c.args.upload.now c.see_empty.new.upload memory
    (subst (λ (f : SubmissionFault). Stands f c.args.upload.now c.see_empty.new.upload) (sym memory) c.in_err-see_empty.ensures.stands))

pub returns-in_err-uploaded-in-Ok-clause-ended : goal.returns-in_err-uploaded-in-Ok-clause-ended
returns-in_err-uploaded-in-Ok-clause-ended g c =
    let does = Does g.T.Tree.observes g.C.Client.calls g.W.Watcher.hears in
    let fault = c.in_err-uploaded-in-Ok.field-0.0 in
    let seen = rw c.in-Ok.is at c.in_ok-see_empty.ensures.seen in
    if_err_same c.from_residual-in_err-uploaded-in-Ok.result fault (λ f. EndsEarly does (AreOfFile c.args.into c.args.path.now c.args.entry.now) f c.args.upload.now c.add_file.new.upload) c.from_residual-in_err-uploaded-in-Ok.ensures.1
    (upload_ends c.args.into c.args.path.now c.args.entry.now does fault c.args.upload.now c.see_empty.new.upload c.add_file.new.upload seen c.in_err-uploaded-in-Ok.ensures.ended)

pub returns-in_ok-uploaded-in-Ok-clause-came : goal.returns-in_ok-uploaded-in-Ok-clause-came
returns-in_ok-uploaded-in-Ok-clause-came g c =
    let does = Does g.T.Tree.observes g.C.Client.calls g.W.Watcher.hears in
    let seen = rw c.in-Ok.is at c.in_ok-see_empty.ensures.seen in
    upload_added c.args.into c.args.path.now c.args.entry.now does c.in_ok-uploaded-in-Ok.uploaded c.args.upload.now c.see_empty.new.upload c.add_file.new.upload seen c.in_ok-uploaded-in-Ok.ensures.added

pub returns-in-Err-clause-came : goal.returns-in-Err-clause-came
returns-in-Err-clause-came g c =
    let does = Does g.T.Tree.observes g.C.Client.calls g.W.Watcher.hears in
    let stops = rw c.in-Err.is at c.in_ok-see_empty.ensures.seen in
    upload_unread c.args.into c.args.path.now c.args.entry.now does c.in-Err.why c.args.upload.now c.see_empty.new.upload c.report_skipped.new.upload stops c.report_skipped.ensures
