use Rattle.droid_upload.specs.Deeds.{Does}
use Rattle.droid_upload.specs.Fronts.{EndsEarly}
use Rattle.droid_upload.specs.Steps.{AreDropping}
use Rattle.droid_upload.proofs.FileEndings.{file_dropped, file_dropped_changed, undropped, undropped_changed}
use Rattle.droid_upload.proofs.Passing.{if_err_same}
use Rattle.droid_upload.proofs.file_ending.drop_file.Goals as goal

pub returns-in_err-abandoned-clause-ended : goal.returns-in_err-abandoned-clause-ended
returns-in_err-abandoned-clause-ended g c =
    let does = Does g.T.Tree.observes g.C.Client.calls g.W.Watcher.hears in
    let fault = c.in_err-abandoned.field-0.0 in
    if_err_same c.from_residual.result fault (λ f. EndsEarly does (AreDropping c.args.profile c.args.number c.args.path.now c.args.why) f c.args.upload.now c.abandon.new.upload) c.from_residual.ensures.1
    (undropped c.args.profile c.args.number c.args.path.now does c.args.why fault c.args.upload.now c.abandon.new.upload c.in_err-abandoned.ensures.ended)

pub returns-then-abandoned-clause-dropped : goal.returns-then-abandoned-clause-dropped
returns-then-abandoned-clause-dropped g c =
    let does = Does g.T.Tree.observes g.C.Client.calls g.W.Watcher.hears in
    let left = c.in_ok-abandoned.ensures.abandoned c.if-abandoned.true in
    file_dropped c.args.profile c.args.number c.args.path.now does c.args.why left.0 c.args.upload.now c.abandon.new.upload _ left.1 left.2 c.report_skipped.ensures

pub returns-in_err-uploaded-clause-ended : goal.returns-in_err-uploaded-clause-ended
returns-in_err-uploaded-clause-ended g c =
    let does = Does g.T.Tree.observes g.C.Client.calls g.W.Watcher.hears in
    let fault = c.in_err-uploaded.field-0.0 in
    let failed = c.in_ok-abandoned.ensures.changed c.if-abandoned.false in
    if_err_same c.from_residual-in_err-uploaded.result fault (λ f. EndsEarly does (AreDropping c.args.profile c.args.number c.args.path.now c.args.why) f c.args.upload.now c.leave_changed.new.upload)
    c.from_residual-in_err-uploaded.ensures.1
    (undropped_changed c.args.profile c.args.number c.args.path.now does c.args.why fault c.args.upload.now c.abandon.new.upload c.leave_changed.new.upload failed c.in_err-uploaded.ensures.ended)

pub returns-clause-dropped : goal.returns-clause-dropped
returns-clause-dropped g c =
    let does = Does g.T.Tree.observes g.C.Client.calls g.W.Watcher.hears in
    let failed = c.in_ok-abandoned.ensures.changed c.if-abandoned.false in
    file_dropped_changed c.args.profile c.args.number c.args.path.now does c.args.why c.in_ok-uploaded.uploaded c.args.upload.now c.abandon.new.upload c.leave_changed.new.upload failed c.in_ok-uploaded.ensures.left
