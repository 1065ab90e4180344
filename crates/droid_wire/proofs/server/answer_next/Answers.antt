use Rattle.std.proofs.Common.{◌≡◌, ℕ, Option, Result, refl, arith, inl, inr}
use Rattle.std.specs.Prelude.{IsErrAnd, IsErrOf}
use Rattle.droid_frame.proofs.Stopping.{room_stays}
use Rattle.droid_frame.specs.InTurn.{ReportsFaultInOne}
use Rattle.droid_frame.specs.declared.streams.fault.FrameFault.TheVariants.{Read}
use Rattle.droid_wire.specs.Turns.{ReadsFrame}
use Rattle.droid_wire.specs.declared.serve_fault.ServeFault.{ServeFault}
use Rattle.droid_wire.specs.declared.serve_fault.ServeFault.TheVariants as faults
use Rattle.droid_wire.proofs.Passing.{frame_fault, if_err_same, no_write_fault, serve_fault}
use Rattle.droid_wire.proofs.GoingOn.{goes_nowhere, goes_on}
use Rattle.droid_wire.proofs.Turns.{endless_write, frame_size, gives_answered, gives_cut, reads_nothing}
use Rattle.droid_wire.proofs.server.answer_next.Goals as goal

pub overflow_add-result : goal.overflow_add-result
overflow_add-result g c =
    let size = frame_size c.in-Frame.frame.version c.in-Frame.frame.client c.in-Frame.frame.number c.handle-reply.result in
    omega (arith, c.requires, c.in-Err.ensures.err.some_left, size, c.reply_body_len.ensures.length, c.reply_body_len.ensures.bound)

pub returns-in-Ok-clause-gives : goal.returns-in-Ok-clause-gives
returns-in-Ok-clause-gives g c = λ setting history stands.
    gives_answered setting history _ _ _ _ c.args.service.now _ c.args.written _ c.reply_body_len.result c.in-Frame.frame c.handle-reply.result (rw c.in-Frame.is at c.in_ok-frame.ensures.brought)
    (c.handle-reply.ensures.handles setting history stands) c.handle-reply.ensures.spelled c.in-Ok.ensures.ok refl c.reply_body_len.ensures.length

pub returns-clause-gives : goal.returns-clause-gives
returns-clause-gives g c = λ setting history stands.
    gives_cut setting history _ _ _ _ c.args.service.now _ c.args.written _ c.in-Frame.frame c.handle-reply.result (rw c.in-Frame.is at c.in_ok-frame.ensures.brought)
    (c.handle-reply.ensures.handles setting history stands) c.handle-reply.ensures.spelled c.in-Err.ensures.err

pub returns-in_err-frame-clause-goes_on : goal.returns-in_err-frame-clause-goes_on
returns-in_err-frame-clause-goes_on g c = λ setting history stands. goes_nowhere setting history 1 c.args.service.now stands

pub returns-in_default-clause-goes_on : goal.returns-in_default-clause-goes_on
returns-in_default-clause-goes_on g c = λ setting history stands. goes_nowhere setting history 1 c.args.service.now stands

pub returns-in-Ok-clause-goes_on : goal.returns-in-Ok-clause-goes_on
returns-in-Ok-clause-goes_on g c = λ setting history stands.
    goes_on setting history c.args.service.now c.handle-reply.new.self c.in-Frame.frame c.handle-reply.result stands (c.handle-reply.ensures.handles setting history stands) c.handle-reply.ensures.spelled

pub returns-clause-goes_on : goal.returns-clause-goes_on
returns-clause-goes_on g c = λ setting history stands.
    goes_on setting history c.args.service.now c.handle-reply.new.self c.in-Frame.frame c.handle-reply.result stands (c.handle-reply.ensures.handles setting history stands) c.handle-reply.ensures.spelled

pub returns-in-Ok-clause-read : goal.returns-in-Ok-clause-read
returns-in-Ok-clause-read g c = (c.in-Frame.frame, rw c.in-Frame.is at c.in_ok-frame.ensures.brought)

pub returns-in-Ok-clause-wrote : goal.returns-in-Ok-clause-wrote
returns-in-Ok-clause-wrote g c = ((c.in-Frame.frame, c.handle-reply.result), (c.handle-reply.ensures.spelled, c.in-Ok.ensures.ok))

pub returns-in_err-frame-clause-read_fault : goal.returns-in_err-frame-clause-read_fault
returns-in_err-frame-clause-read_fault g c = λ sound.
    let fault = c.in_err-frame.field-0.0 in
    let reported = c.in_err-frame.ensures.failed sound in
    if_err_same c.from_residual.result (faults.Frame fault)
    (λ (r : Result (Option ℕ) ServeFault). ReportsFaultInOne g.R.SteadyRead.seen (ReadsFrame g.R.Read.remaining) c.args.reader.now c.read_frame.new.reader (IsErrOf r (faults.Frame Read))) c.from_residual.ensures.1
    (inr (inr (
      c.in_err-frame.ensures.fault,
      record { fault = λ e. reported.fault (frame_fault fault Read e); otherwise = λ not. reported.otherwise (λ e. not (serve_fault fault Read e)) },
    )))

pub returns-in_err-frame-clause-write_fault : goal.returns-in_err-frame-clause-write_fault
returns-in_err-frame-clause-write_fault g c = λ sound endless.
    let fault = c.in_err-frame.field-0.0 in (
      inr (inl (
        refl,
        if_err_same c.from_residual.result (faults.Frame fault)
            (λ (r : Result (Option ℕ) ServeFault). IsErrAnd r (λ fault. (cut : ℕ) × (fault ≡ faults.Write cut)) → ⊥) c.from_residual.ensures.1 (no_write_fault fault),
      )),
      endless,
    )

pub returns-in_default-clause-read_fault : goal.returns-in_default-clause-read_fault
returns-in_default-clause-read_fault g c = λ sound.
    let reported = c.in_ok-frame.ensures.failed sound in
    inr (inr (
      reads_nothing _ _ (rw c.in_default.is at c.in_ok-frame.ensures.brought).1,
      record { fault = λ e. absurd cc; otherwise = λ _. reported.otherwise (λ e. absurd cc) },
    ))

pub returns-in_default-clause-write_fault : goal.returns-in_default-clause-write_fault
returns-in_default-clause-write_fault g c = λ sound endless. (inr (inl (refl, λ e. absurd e)), endless)

pub returns-in-Ok-clause-read_fault : goal.returns-in-Ok-clause-read_fault
returns-in-Ok-clause-read_fault g c = λ sound.
    inl (c.in-Frame.frame, rw c.in-Frame.is at c.in_ok-frame.ensures.brought, (c.in_ok-frame.ensures.failed sound).otherwise (λ e. absurd cc), λ e. absurd cc)

pub returns-in-Ok-clause-write_fault : goal.returns-in-Ok-clause-write_fault
returns-in-Ok-clause-write_fault g c = λ sound endless. (
  inl ((c.in-Frame.frame, c.handle-reply.result), (c.handle-reply.ensures.spelled, c.in-Ok.ensures.ok), ((c.in-Ok.ensures.failed sound).otherwise (λ e. absurd cc)).0, λ e. absurd e),
  room_stays _ _ (rw endless at c.in-Ok.ensures.room_ok),
)

pub returns-clause-read_fault : goal.returns-clause-read_fault
returns-clause-read_fault g c = λ sound.
    inl (c.in-Frame.frame, rw c.in-Frame.is at c.in_ok-frame.ensures.brought, (c.in_ok-frame.ensures.failed sound).otherwise (λ e. absurd cc), λ e. absurd cc)

pub returns-clause-write_fault : goal.returns-clause-write_fault
returns-clause-write_fault g c = λ sound endless. (
  inr (inr (
    ((c.in-Frame.frame, c.handle-reply.result), _, c.handle-reply.ensures.spelled, c.in-Err.ensures.err),
    endless_write _ _ _ _ _ _ endless (c.in-Err.ensures.failed sound) refl (_, refl),
  )),
  room_stays _ _ (rw endless at c.in-Err.ensures.room_err),
)
