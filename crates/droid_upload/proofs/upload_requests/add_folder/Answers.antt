use Rattle.std.proofs.Common.{inl, [], ◌∷◌, refl}
use Rattle.std.proofs.lemmas.Int.{to_z-of_z}
use Rattle.std.specs.Int.{w64}
use Rattle.droid_frame.specs.declared.request.Request.TheVariants.{AddFolder}
use Rattle.droid_upload.specs.Calls.{Answered}
use Rattle.droid_upload.specs.Deeds.{Called, Does}
use Rattle.droid_upload.specs.Fronts.{AreJust, EndsAsking}
use Rattle.droid_upload.specs.declared.submission_fault.SubmissionFault.TheVariants as faults
use Rattle.droid_upload.proofs.Behind.{answer_alone, vain_alone}
use Rattle.droid_upload.proofs.Early.{memory_ends}
use Rattle.droid_upload.proofs.Passing.{if_err_same}
use Rattle.droid_upload.proofs.upload_requests.add_folder.Goals as goal

pub returns-in_err-copy_of-clause-ended : goal.returns-in_err-copy_of-clause-ended
returns-in_err-copy_of-clause-ended g c =
    let does = Does g.T.Tree.observes g.C.Client.calls g.W.Watcher.hears in
    let request = AddFolder c.args.profile c.args.parent c.args.modified c.args.name.now in
    if_err_same c.from_residual.result faults.Memory (λ f. EndsAsking does 0 request f c.args.upload.now c.args.upload.now) c.from_residual.ensures.1
    (λ expected. memory_ends does (AreJust (Called (Answered 0 request expected) ∷ [])) faults.Memory [] (Called (Answered 0 request expected) ∷ []) _ _ _ refl refl (inl refl) refl)

pub returns-in_err-reply-clause-ended : goal.returns-in_err-reply-clause-ended
returns-in_err-reply-clause-ended g c =
    let does = Does g.T.Tree.observes g.C.Client.calls g.W.Watcher.hears in
    let request = AddFolder c.args.profile c.args.parent c.args.modified c.args.name.now in
    let fault = c.in_err-reply.field-0.0 in
    if_err_same c.from_residual-in_err-reply.result fault (λ f. EndsAsking does 0 request f c.args.upload.now c.ask.new.upload) c.from_residual-in_err-reply.ensures.1
    (λ expected. vain_alone does (AreJust (Called (Answered 0 request expected) ∷ [])) 0 request expected [] fault _ _ (rw (to_z-of_z w64 c.args.modified c.ranges.modified, c.in_ok-copy_of.ensures) at c.in_err-reply.ensures.failed) (λ reused. tt) refl)

pub returns-in_err-added-clause-ended : goal.returns-in_err-added-clause-ended
returns-in_err-added-clause-ended g c =
    let does = Does g.T.Tree.observes g.C.Client.calls g.W.Watcher.hears in
    let request = AddFolder c.args.profile c.args.parent c.args.modified c.args.name.now in
    let fault = c.in_err-added.field-0.0 in
    let said = c.in_err-added.ensures.fault in
    if_err_same c.from_residual-in_err-added.result fault (λ f. EndsAsking does 0 request f c.args.upload.now c.ask.new.upload) c.from_residual-in_err-added.ensures.1
    (λ expected. answer_alone does (AreJust (Called (Answered 0 request expected) ∷ [])) 0 request expected [] fault _ _ c.in_ok-reply.reply (rw (to_z-of_z w64 c.args.modified c.ranges.modified, c.in_ok-copy_of.ensures) at c.in_ok-reply.ensures.answered) said.1 (λ again. absurd cc) said.0 refl)
