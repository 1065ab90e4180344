use Rattle.std.proofs.Common.{[], ◌∷◌, refl}
use Rattle.droid_frame.specs.declared.request.Request.TheVariants.{CreateProfile}
use Rattle.droid_upload.specs.Calls.{Answered}
use Rattle.droid_upload.specs.Deeds.{Called, Does}
use Rattle.droid_upload.specs.Fronts.{AreJust, EndsAsking}
use Rattle.droid_upload.proofs.Behind.{answer_alone, vain_alone}
use Rattle.droid_upload.proofs.Passing.{if_err_same}
use Rattle.droid_upload.proofs.upload_requests.create_profile.Goals as goal

pub returns-in_err-reply-clause-ended : goal.returns-in_err-reply-clause-ended
returns-in_err-reply-clause-ended g c =
    let does = Does g.T.Tree.observes g.C.Client.calls g.W.Watcher.hears in
    let request = CreateProfile c.args.scan_limit c.args.match_all c.args.hash in
    let fault = c.in_err-reply.field-0.0 in
    if_err_same c.from_residual.result fault (λ f. EndsAsking does 0 request f c.args.upload.now c.ask.new.upload) c.from_residual.ensures.1
    (λ expected. vain_alone does (AreJust (Called (Answered 0 request expected) ∷ [])) 0 request expected [] fault _ _ c.in_err-reply.ensures.failed (λ reused. tt) refl)

pub returns-in_err-profile-clause-ended : goal.returns-in_err-profile-clause-ended
returns-in_err-profile-clause-ended g c =
    let does = Does g.T.Tree.observes g.C.Client.calls g.W.Watcher.hears in
    let request = CreateProfile c.args.scan_limit c.args.match_all c.args.hash in
    let fault = c.in_err-profile.field-0.0 in
    let said = c.in_err-profile.ensures.fault in
    if_err_same c.from_residual-in_err-profile.result fault (λ f. EndsAsking does 0 request f c.args.upload.now c.ask.new.upload) c.from_residual-in_err-profile.ensures.1
    (λ expected. answer_alone does (AreJust (Called (Answered 0 request expected) ∷ [])) 0 request expected [] fault _ _ c.in_ok-reply.reply c.in_ok-reply.ensures.answered said.1 (λ again. absurd cc) said.0 refl)
