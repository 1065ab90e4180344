use Rattle.std.proofs.Common.{◌≡◌, [], subst}
use Rattle.droid_frame.specs.declared.reply.Reply.{Reply}
use Rattle.droid_remote.specs.Calls.{Waits, Wherever}
use Rattle.droid_remote.specs.Exports.{EndsAsking, part_frame}
use Rattle.droid_remote.proofs.Handing.{if_err_same}
use Rattle.droid_remote.proofs.Parts.{ends_waits}
use Rattle.droid_remote.proofs.remote_export.ask_part.Goals as goal

pub returns-in_err-reply-clause-missed : goal.returns-in_err-reply-clause-missed
returns-in_err-reply-clause-missed g c =
    let old = c.args.sender.now in
    let new = c.ask_reply.new.sender.in_flight in
    if_err_same c.from_residual.result c.in_err-reply.field-0.0
    (λ f. old.in_flight.waiting.items ≡ [] → Wherever old.in_flight (λ known facts. EndsAsking old.client old.name c.args.profile g.C.Connection.does f known facts old.in_flight new)) c.from_residual.ensures.1
    c.in_err-reply.ensures.missed

pub returns-in_err-part-clause-missed : goal.returns-in_err-part-clause-missed
returns-in_err-part-clause-missed g c =
    let old = c.args.sender.now in
    let new = c.ask_reply.new.sender.in_flight in
    let fault = c.in_err-part.field-0.0 in
    if_err_same c.from_residual-in_err-part.result fault
    (λ f. old.in_flight.waiting.items ≡ [] → Wherever old.in_flight (λ known facts. EndsAsking old.client old.name c.args.profile g.C.Connection.does f known facts old.in_flight new)) c.from_residual-in_err-part.ensures.1
    (λ none known facts stands.
    ends_waits old.client old.name c.args.profile g.C.Connection.does known facts c.args.from c.in_ok-reply.reply fault old.in_flight new none (c.in_ok-reply.ensures.came known facts stands) c.in_err-part.ensures.fault)

pub returns-clause-came : goal.returns-clause-came
returns-clause-came g c = λ known facts stands.
    let old = c.args.sender.now in
    subst (λ (reply : Reply). Waits g.C.Connection.does known (part_frame old.client old.name c.args.profile c.args.from) reply facts old.in_flight c.ask_reply.new.sender.in_flight) c.in_ok-part.ensures.part (c.in_ok-reply.ensures.came known facts stands)
