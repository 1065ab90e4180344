use Rattle.std.proofs.lemmas.Result.{err_from_is_err_and}
use Rattle.droid_frame.specs.SequenceFields.{sequence_at}
use Rattle.droid_frame.specs.TextListFields.{sized_text_at}
use Rattle.droid_frame.proofs.SequenceLoops.{goes_on, ends, is_done}
use Rattle.droid_frame.proofs.reading.fields.text_lists.texts_at.Goals as goal

pub returns-in_err-text : goal.returns-in_err-text
returns-in_err-text c =
    let at = sized_text_at c.args.least c.args.most in
    let failed = err_from_is_err_and c.from_residual.result c.from_residual.ensures.1 in
    rw (failed.1, failed.2) (ends at c.in_err-text.field-0.0 c.loop.texts c.args.count c.loop.counter c.loop.rest.now (sequence_at at c.args.count c.args.bytes.now) c.loop-test.true c.in_err-text.ensures c.loop.invariant)

pub loop-preserved : goal.loop-preserved
loop-preserved c =
    let at = sized_text_at c.args.least c.args.most in
    rw c.in_ok-push.ensures.ok (goes_on at c.loop.texts c.args.count c.loop.counter c.loop.rest.now c.in_ok-text.text c.in_ok-text.after.now (sequence_at at c.args.count c.args.bytes.now) c.loop-test.true c.in_ok-text.ensures c.loop.invariant)

pub returns : goal.returns
returns c =
    let at = sized_text_at c.args.least c.args.most in
    is_done at c.loop.texts c.args.count c.loop.counter c.loop.rest.now (sequence_at at c.args.count c.args.bytes.now) c.loop-test.false c.loop.invariant
