use Rattle.droid_upload.specs.Deeds.{Does}
use Rattle.droid_upload.specs.Faults.{IsAfterCall}
use Rattle.droid_upload.specs.Steps.{AreChanged, EndsAfter}
use Rattle.droid_upload.proofs.FileEndings.{leave_in_vain, leave_refused}
use Rattle.droid_upload.proofs.Passing.{if_err_same}
use Rattle.droid_upload.proofs.file_ending.leave_changed.Goals as goal

pub returns-in_err-reply-clause-ended : goal.returns-in_err-reply-clause-ended
returns-in_err-reply-clause-ended g c =
    let does = Does g.T.Tree.observes g.C.Client.calls g.W.Watcher.hears in
    let fault = c.in_err-reply.field-0.0 in
    if_err_same c.from_residual.result fault (λ f. EndsAfter does IsAfterCall (AreChanged c.args.profile c.args.number c.args.path.now) f c.args.upload.now c.ask.new.upload) c.from_residual.ensures.1
    (leave_in_vain c.args.profile c.args.number c.args.path.now does fault c.args.upload.now c.ask.new.upload c.in_err-reply.ensures.failed)

pub returns-in_err-see_left-clause-ended : goal.returns-in_err-see_left-clause-ended
returns-in_err-see_left-clause-ended g c =
    let does = Does g.T.Tree.observes g.C.Client.calls g.W.Watcher.hears in
    let fault = c.in_err-see_left.field-0.0 in
    let said = c.in_err-see_left.ensures.fault in
    if_err_same c.from_residual-in_err-see_left.result fault (λ f. EndsAfter does IsAfterCall (AreChanged c.args.profile c.args.number c.args.path.now) f c.args.upload.now c.ask.new.upload) c.from_residual-in_err-see_left.ensures.1
    (leave_refused c.args.profile c.args.number c.args.path.now does fault c.in_ok-reply.reply c.args.upload.now c.ask.new.upload c.in_ok-reply.ensures.answered said.1 said.0)
