use Rattle.std.proofs.Common.{ℕ, List, refl, ap}
use Rattle.droid_core_spec.proofs.Asked.{nothing_asked}
use Rattle.droid_core.specs.declared.stamps.Stamp.{Stamp}
use Rattle.droid_recovery.proofs.Takings.{malformed_takes, unchanged_takes, whole_takes}
use Rattle.droid_recovery.proofs.record_step.take_whole.Goals as goal

pub returns-in-Ok : goal.returns-in-Ok
returns-in-Ok c =
    let frame = c.args.frame in
    let stamp : List ℕ → Stamp = λ mark. record { client = frame.client; number = frame.number; version = frame.version; mark = mark } in
    let spelled = c.in-Ok.ensures.found in
    whole_takes frame c.requires.no_piece c.requires.no_finish c.in-Ok.request (stamp c.args.mark) spelled.0 spelled.1 (ap stamp c.requires.mark) c.args.holdings.now c.recover_command.new.holdings c.recover_command.result
    c.recover_command.ensures.recovers c.recover_command.ensures.again c.recover_command.ensures.still c.recover_command.ensures.spelled

pub returns-in-Err-Malformed : goal.returns-in-Err-Malformed
returns-in-Err-Malformed c =
    malformed_takes c.args.frame c.requires.no_piece c.requires.no_finish c.args.holdings.now _ tt (nothing_asked c.args.frame c.requires.readable.is_frame.body_is_bytes ((rw c.in-Err-Malformed.field-0-is at c.in-Err-Malformed.ensures.malformed).0 refl))

pub returns-in-Err-Memory : goal.returns-in-Err-Memory
returns-in-Err-Memory c =
    unchanged_takes c.args.frame c.args.holdings.now _ tt (λ setting bare history entry words was is. refl) (λ history entry came. refl)
