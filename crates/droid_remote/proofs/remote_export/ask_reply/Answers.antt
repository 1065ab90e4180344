use Rattle.std.proofs.Common.{◌≡◌, ℕ, List, [], ap, refl, subst, ◌∙◌}
use Rattle.droid_frame.specs.declared.frame.Frame.{Frame}
use Rattle.droid_frame.specs.declared.request.Request.{Request}
use Rattle.droid_remote.specs.Calls.{Fails, IsAmong, Waits, Wherever}
use Rattle.droid_remote.specs.declared.transfer.transfer_fault.TransferFault.TheVariants as transfers
use Rattle.droid_remote.specs.Exports.{EndsAsking}
use Rattle.droid_remote.specs.Numbered.{frame_of}
use Rattle.droid_remote.proofs.Handing.{if_err_same}
use Rattle.droid_remote.proofs.Parts.{ends_fails, ends_unasked}
use Rattle.droid_remote.proofs.remote_export.ask_reply.Goals as goal

pub returns-in_err-frame-clause-missed : goal.returns-in_err-frame-clause-missed
returns-in_err-frame-clause-missed g c =
    let old = c.args.sender.now in
    if_err_same c.from_residual.result transfers.Memory
    (λ f. old.in_flight.waiting.items ≡ [] → Wherever old.in_flight (λ known facts. EndsAsking old.client old.name c.args.profile g.C.Connection.does f known facts old.in_flight old.in_flight)) c.from_residual.ensures.1
    (λ none known facts stands.
    ends_unasked old.client old.name c.args.profile g.C.Connection.does known facts old.in_flight none stands transfers.Memory refl)

pub returns-in_err-reply-clause-missed : goal.returns-in_err-reply-clause-missed
returns-in_err-reply-clause-missed g c =
    let old = c.args.sender.now in
    let fault = c.in_err-reply.field-0.0 in
    let its = c.in_ok-frame.ensures ∙ (ap (λ (n : List ℕ). frame_of old.client n 0 c.part_request-request.result) c.as_str.ensures.value ∙ ap (λ (r : Request). frame_of old.client old.name 0 r) c.part_request-request.ensures) in
    if_err_same c.from_residual-in_err-reply.result fault
    (λ f. old.in_flight.waiting.items ≡ [] → Wherever old.in_flight (λ known facts. EndsAsking old.client old.name c.args.profile g.C.Connection.does f known facts old.in_flight c.ask.new.self)) c.from_residual-in_err-reply.ensures.1
    (λ none known facts stands.
    ends_fails old.client old.name c.args.profile g.C.Connection.does known facts c.args.from fault old.in_flight c.ask.new.self none
    (subst (λ (f : Frame). Fails g.C.Connection.does known (IsAmong old.in_flight.waiting.items f) old.in_flight.waiting.items fault facts old.in_flight c.ask.new.self) its (c.in_err-reply.ensures.failed known facts stands)))

pub returns-clause-came : goal.returns-clause-came
returns-clause-came g c = λ known facts stands.
    let old = c.args.sender.now in
    let its = c.in_ok-frame.ensures ∙ (ap (λ (n : List ℕ). frame_of old.client n 0 c.part_request-request.result) c.as_str.ensures.value ∙ ap (λ (r : Request). frame_of old.client old.name 0 r) c.part_request-request.ensures) in
    subst (λ (f : Frame). Waits g.C.Connection.does known f c.in_ok-reply.reply facts old.in_flight c.ask.new.self) its (c.in_ok-reply.ensures.answered known facts stands)
