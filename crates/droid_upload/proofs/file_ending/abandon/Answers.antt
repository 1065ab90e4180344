use Rattle.std.proofs.Common.{[], ◌∷◌, sym, subst}
use Rattle.droid_frame.specs.declared.reply.Reply.{Reply}
use Rattle.droid_frame.specs.declared.request.Request.TheVariants.{Abandon}
use Rattle.droid_upload.specs.Calls.{Answered}
use Rattle.droid_upload.specs.Deeds.{Called, Does}
use Rattle.droid_upload.specs.Fronts.{AreJust, EndsEarly}
use Rattle.droid_upload.specs.declared.submission_fault.SubmissionFault.{SubmissionFault}
use Rattle.droid_upload.proofs.FileEndings.{abandon_in_vain, abandon_refused}
use Rattle.droid_upload.proofs.Passing.{if_err_same}
use Rattle.droid_upload.proofs.file_ending.abandon.Goals as goal

pub returns-in_err-see_left-in-Ok-clause-ended : goal.returns-in_err-see_left-in-Ok-clause-ended
returns-in_err-see_left-in-Ok-clause-ended g c =
    let does = Does g.T.Tree.observes g.C.Client.calls g.W.Watcher.hears in
    let fault = c.in_err-see_left-in-Ok.field-0.0 in
    let said = c.in_err-see_left-in-Ok.ensures.fault in
    if_err_same c.from_residual.result fault
    (λ f. (expected : Reply) → EndsEarly does (AreJust (Called (Answered 0 (Abandon c.args.profile c.args.number) expected) ∷ [])) f c.args.upload.now c.ask.new.upload)
    c.from_residual.ensures.1 (abandon_refused c.args.profile c.args.number [] does fault c.in-Ok.reply c.args.upload.now c.ask.new.upload c.in-Ok.ensures.answered said.1 said.0)

pub returns-in_err-see_reused-in-Err-clause-ended : goal.returns-in_err-see_reused-in-Err-clause-ended
returns-in_err-see_reused-in-Err-clause-ended g c =
    let does = Does g.T.Tree.observes g.C.Client.calls g.W.Watcher.hears in
    let said = c.in_err-see_reused-in-Err.ensures.other in
    let P = λ (f : SubmissionFault). (expected : Reply) → EndsEarly does (AreJust (Called (Answered 0 (Abandon c.args.profile c.args.number) expected) ∷ [])) f c.args.upload.now c.ask.new.upload in
    if_err_same c.from_residual-in_err-see_reused-in-Err.result c.in_err-see_reused-in-Err.field-0.0 P c.from_residual-in_err-see_reused-in-Err.ensures.1
    (subst P (sym said.0) (abandon_in_vain c.args.profile c.args.number [] does c.in-Err.fault c.args.upload.now c.ask.new.upload c.in-Err.ensures.failed said.1))
