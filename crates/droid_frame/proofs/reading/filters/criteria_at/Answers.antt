use Rattle.std.proofs.lemmas.Result.{err_from_is_err_and}
use Rattle.droid_frame.specs.FilterValues.{criterion_at}
use Rattle.droid_frame.specs.SequenceFields.{sequence_at}
use Rattle.droid_frame.proofs.SequenceLoops.{goes_on, ends, is_done}
use Rattle.droid_frame.proofs.reading.filters.criteria_at.Goals as goal

pub returns-in_err-criterion : goal.returns-in_err-criterion
returns-in_err-criterion c =
    let failed = err_from_is_err_and c.from_residual.result c.from_residual.ensures.1 in
    rw (failed.1, failed.2) (ends criterion_at c.in_err-criterion.field-0.0 c.loop.criteria c.args.count c.loop.counter c.loop.rest.now (sequence_at criterion_at c.args.count c.args.bytes.now) c.loop-test.true c.in_err-criterion.ensures c.loop.invariant)

pub loop-preserved : goal.loop-preserved
loop-preserved c =
    rw c.in_ok-push.ensures.ok (goes_on criterion_at c.loop.criteria c.args.count c.loop.counter c.loop.rest.now c.in_ok-criterion.criterion c.in_ok-criterion.after.now (sequence_at criterion_at c.args.count c.args.bytes.now) c.loop-test.true c.in_ok-criterion.ensures c.loop.invariant)

pub returns : goal.returns
returns c = is_done criterion_at c.loop.criteria c.args.count c.loop.counter c.loop.rest.now (sequence_at criterion_at c.args.count c.args.bytes.now) c.loop-test.false c.loop.invariant
