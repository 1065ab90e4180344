use Rattle.std.proofs.Common.{sym, ap}
use Rattle.droid_frame.specs.SequenceFields.{sequence_at}
use Rattle.droid_frame.specs.TextListFields.{sized_text_at}
use Rattle.droid_frame.proofs.SequenceLoops.{rest_of, rest_goes_on, rest_ends, rest_is_done}
use Rattle.droid_frame.proofs.reading.fields.text_lists.after_texts.Goals as goal

pub returns-in_err-after : goal.returns-in_err-after
returns-in_err-after c =
    let at = sized_text_at c.args.least c.args.most in
    rw c.from_residual.ensures (sym (rest_ends at c.args.count c.loop.counter c.loop.rest.now (rest_of (sequence_at at c.args.count c.args.bytes.now)) c.loop-test.true (ap rest_of (sym c.in_err-after.ensures)) c.loop.invariant))

pub loop-preserved : goal.loop-preserved
loop-preserved c =
    let at = sized_text_at c.args.least c.args.most in
    rest_goes_on at c.args.count c.loop.counter c.loop.rest.now c.in_ok-after.after.now (rest_of (sequence_at at c.args.count c.args.bytes.now)) c.loop-test.true (ap rest_of (sym c.in_ok-after.ensures)) c.loop.invariant

pub returns : goal.returns
returns c =
    let at = sized_text_at c.args.least c.args.most in
    sym (rest_is_done at c.args.count c.loop.counter c.loop.rest.now (rest_of (sequence_at at c.args.count c.args.bytes.now)) c.loop-test.false c.loop.invariant)
