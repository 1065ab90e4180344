use Rattle.std.proofs.Common.{sym, arith}
use Rattle.droid_turns.specs.Parts.{came}
use Rattle.droid_turns.proofs.Ends.{ended_between, ended_cut, ended_empty, ended_fault, ended_short, kind_is, passed_on}
use Rattle.droid_turns.proofs.feeding.parts.Parts.end.Goals as goal

pub returns-then-self-eq0-clause-closed : goal.returns-then-self-eq0-clause-closed
returns-then-self-eq0-clause-closed c =
    ended_between c.args.self.now c.requires c.if-self-eq0.true

pub returns-in_err-body_length-clause-fault : goal.returns-in_err-body_length-clause-fault
returns-in_err-body_length-clause-fault c =
    let fault = c.in_err-body_length.field-0.0 in
    passed_on c.from_residual.result (came c.args.self.now) fault c.from_residual.ensures.1
    (ended_fault c.args.self.now c.from_bytes.result fault c.from_bytes.ensures.spelled c.from_bytes.ensures.fits
    c.if-self-eq-HEADER_LENGTH.true (sym c.in_err-body_length.ensures.judged))

pub returns-in_ok-body_length-clause-fault : goal.returns-in_ok-body_length-clause-fault
returns-in_ok-body_length-clause-fault c =
    ended_cut c.args.self.now c.in_ok-body_length.field-0 c.from_bytes.result c.from_bytes.ensures.spelled c.from_bytes.ensures.fits
    c.if-self-eq-HEADER_LENGTH.true (sym c.in_ok-body_length.ensures.judged)

pub returns-else-self-eq-HEADER_LENGTH-clause-fault : goal.returns-else-self-eq-HEADER_LENGTH-clause-fault
returns-else-self-eq-HEADER_LENGTH-clause-fault c =
    ended_short c.args.self.now c.requires (omega arith) c.if-self-eq0.false c.if-self-eq-HEADER_LENGTH.false

pub returns-then-self-eq0-clause-empty : goal.returns-then-self-eq0-clause-empty
returns-then-self-eq0-clause-empty c = ended_empty c.args.self.now c.requires c.if-self-eq0.true

pub returns-in_err-body_length-clause-kind : goal.returns-in_err-body_length-clause-kind
returns-in_err-body_length-clause-kind c = kind_is c.from_residual.result c.from_bytes.result c.in_err-body_length.field-0.0 c.from_residual.ensures.1 (sym c.in_err-body_length.ensures.judged)
