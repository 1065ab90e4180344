use Rattle.std.proofs.Common.{◌≡◌, Bool, true, false, subst}
use Rattle.droid_frame.specs.declared.request.Request.{Request}
use Rattle.droid_upload.specs.Calls.{Answered}
use Rattle.droid_upload.specs.Deeds.{Called, Does}
use Rattle.droid_upload.specs.Faults.{is_node}
use Rattle.droid_upload.specs.Fronts.{AsksInVain, EndsEarly}
use Rattle.droid_upload.specs.Steps.{AreOpening}
use Rattle.droid_upload.proofs.Openings.{add_declined, add_in_vain, add_refused}
use Rattle.droid_upload.proofs.Passing.{if_err_same}
use Rattle.droid_upload.proofs.file_opening.open_node.Goals as goal

pub returns-in_err-reply-clause-ended : goal.returns-in_err-reply-clause-ended
returns-in_err-reply-clause-ended g c =
    let does = Does g.T.Tree.observes g.C.Client.calls g.W.Watcher.hears in
    let fault = c.in_err-reply.field-0.0 in
    if_err_same c.from_residual.result fault (λ f. EndsEarly does (AreOpening c.args.into c.args.path.now c.args.entry.now c.args.attempt) f c.args.upload.now c.ask.new.upload) c.from_residual.ensures.1
    (add_in_vain c.args.into c.args.path.now c.args.entry.now does c.args.attempt fault c.args.upload.now c.ask.new.upload
    (subst (λ (r : Request). AsksInVain does c.args.attempt r fault c.args.upload.now c.ask.new.upload) c.requires c.in_err-reply.ensures.failed))

pub returns-in_err-number-clause-ended : goal.returns-in_err-number-clause-ended
returns-in_err-number-clause-ended g c =
    let does = Does g.T.Tree.observes g.C.Client.calls g.W.Watcher.hears in
    let fault = c.in_err-number.field-0.0 in
    let reply = c.in_ok-reply.reply in
    let said = c.in_err-number.ensures.fault in
    if_err_same c.from_residual-in_err-number.result fault (λ f. EndsEarly does (AreOpening c.args.into c.args.path.now c.args.entry.now c.args.attempt) f c.args.upload.now c.ask.new.upload) c.from_residual-in_err-number.ensures.1
    (add_refused c.args.into c.args.path.now c.args.entry.now does c.args.attempt fault reply c.args.upload.now c.ask.new.upload
    (subst (λ (r : Request). does c.args.upload.now (Called (Answered c.args.attempt r reply)) c.ask.new.upload) c.requires c.in_ok-reply.ensures.answered)
    (subst (λ (b : Bool). is_node b reply ≡ false) c.is_countable.ensures said.1) said.0)

pub returns-in-Err-clause-opened : goal.returns-in-Err-clause-opened
returns-in-Err-clause-opened g c =
    let does = Does g.T.Tree.observes g.C.Client.calls g.W.Watcher.hears in
    let reply = c.in_ok-reply.reply in
    let said = rw c.in-Err.is at c.in_ok-number.ensures.node in
    add_declined c.args.into c.args.path.now c.args.entry.now does c.args.attempt reply c.in-Err.refusal c.args.upload.now c.ask.new.upload _
    (subst (λ (r : Request). does c.args.upload.now (Called (Answered c.args.attempt r reply)) c.ask.new.upload) c.requires c.in_ok-reply.ensures.answered) said.0
    (subst (λ (b : Bool). is_node b reply ≡ true) c.is_countable.ensures said.1) c.report_skipped.ensures
