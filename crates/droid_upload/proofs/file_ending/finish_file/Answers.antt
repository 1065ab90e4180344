use Rattle.droid_upload.specs.Deeds.{Does}
use Rattle.droid_upload.specs.Faults.{IsAfterRead}
use Rattle.droid_upload.specs.Steps.{AreFinishing, EndsAfter}
use Rattle.droid_upload.proofs.FileEndings.{file_changed, file_finished, unfinished, unleft}
use Rattle.droid_upload.proofs.Passing.{if_err_same}
use Rattle.droid_upload.proofs.file_ending.finish_file.Goals as goal

pub returns-in_err-found-clause-ended : goal.returns-in_err-found-clause-ended
returns-in_err-found-clause-ended g c =
    let does = Does g.T.Tree.observes g.C.Client.calls g.W.Watcher.hears in
    let fault = c.in_err-found.field-0.0 in
    if_err_same c.from_residual.result fault (λ f. EndsAfter does IsAfterRead (AreFinishing c.args.profile c.args.number c.args.path.now c.args.read) f c.args.upload.now c.finish.new.upload) c.from_residual.ensures.1
    (unfinished c.args.profile c.args.number c.args.path.now does c.args.read fault c.args.upload.now c.finish.new.upload c.in_err-found.ensures.ended)

pub returns-in_err-uploaded-in-None-clause-ended : goal.returns-in_err-uploaded-in-None-clause-ended
returns-in_err-uploaded-in-None-clause-ended g c =
    let does = Does g.T.Tree.observes g.C.Client.calls g.W.Watcher.hears in
    let fault = c.in_err-uploaded-in-None.field-0.0 in
    let failed = rw c.in-None.is at c.in_ok-found.ensures.finished in
    if_err_same c.from_residual-in_err-uploaded-in-None.result fault (λ f. EndsAfter does IsAfterRead (AreFinishing c.args.profile c.args.number c.args.path.now c.args.read) f c.args.upload.now c.leave_changed.new.upload)
    c.from_residual-in_err-uploaded-in-None.ensures.1
    (unleft c.args.profile c.args.number c.args.path.now does c.args.read fault c.args.upload.now c.finish.new.upload c.leave_changed.new.upload failed c.in_err-uploaded-in-None.ensures.ended)

pub returns-in-Some-clause-finished : goal.returns-in-Some-clause-finished
returns-in-Some-clause-finished g c =
    let does = Does g.T.Tree.observes g.C.Client.calls g.W.Watcher.hears in
    let found = rw c.in-Some.is at c.in_ok-found.ensures.finished in
    file_finished c.args.profile c.args.number c.args.path.now does c.args.read c.in-Some.found _ c.args.upload.now c.finish.new.upload _ found.0 found.1 c.report_end.ensures.informed c.report_end.ensures.uploaded

pub returns-in_ok-uploaded-in-None-clause-finished : goal.returns-in_ok-uploaded-in-None-clause-finished
returns-in_ok-uploaded-in-None-clause-finished g c =
    let does = Does g.T.Tree.observes g.C.Client.calls g.W.Watcher.hears in
    let failed = rw c.in-None.is at c.in_ok-found.ensures.finished in
    file_changed c.args.profile c.args.number c.args.path.now does c.args.read c.in_ok-uploaded-in-None.uploaded c.args.upload.now c.finish.new.upload c.leave_changed.new.upload failed c.in_ok-uploaded-in-None.ensures.left
