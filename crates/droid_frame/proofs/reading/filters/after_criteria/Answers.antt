use Rattle.std.proofs.Common.{sym}
use Rattle.droid_frame.specs.FilterValues.{criterion_at}
use Rattle.droid_frame.specs.SequenceFields.{sequence_at}
use Rattle.droid_frame.proofs.SequenceLoops.{rest_of, rest_goes_on, rest_ends, rest_is_done}
use Rattle.droid_frame.proofs.reading.filters.after_criteria.Goals as goal

pub returns-in_err-rest : goal.returns-in_err-rest
returns-in_err-rest c =
    rw c.from_residual.ensures (sym (rest_ends criterion_at c.args.count c.loop.counter c.loop.rest.now (rest_of (sequence_at criterion_at c.args.count c.args.bytes.now)) c.loop-test.true (sym c.in_err-rest.ensures) c.loop.invariant))

pub loop-preserved : goal.loop-preserved
loop-preserved c =
    rest_goes_on criterion_at c.args.count c.loop.counter c.loop.rest.now c.in_ok-rest.rest.now (rest_of (sequence_at criterion_at c.args.count c.args.bytes.now)) c.loop-test.true (sym c.in_ok-rest.ensures) c.loop.invariant

pub returns : goal.returns
returns c =
    sym (rest_is_done criterion_at c.args.count c.loop.counter c.loop.rest.now (rest_of (sequence_at criterion_at c.args.count c.args.bytes.now)) c.loop-test.false c.loop.invariant)
