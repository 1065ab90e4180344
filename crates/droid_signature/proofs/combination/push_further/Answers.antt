-- One more byte sequence.
use Rattle.std.proofs.Common.{◌<◌, ◌/◌, length, arith}
use Rattle.droid_signature.proofs.Further.{turn, written_turn}
use Rattle.droid_signature.proofs.combination.push_further.Goals as goal

pub push_pick-requires : goal.push_pick-requires
push_pick-requires c = (turn c.args.rest.now c.loop-choices.choices-index c.choices-item.result c.loop-choices.size c.len-size.result c.loop-choices.left (omega arith) c.choices-item.is c.loop-choices.invariant.size c.len-size.ensures c.loop-choices.invariant.below).place

pub loop-choices-preserved : goal.loop-choices-preserved
loop-choices-preserved c =
    let i = c.loop-choices.choices-index in
    let inside : i < length c.args.rest.now = omega arith in
    let next = turn c.args.rest.now i c.choices-item.result c.loop-choices.size c.len-size.result c.loop-choices.left inside c.choices-item.is c.loop-choices.invariant.size c.len-size.ensures c.loop-choices.invariant.below in
    record {
      written = written_turn c.args.puid.now c.args.rest.now i c.choices-item.result (c.loop-choices.size / c.len-size.result) c.loop-choices.left c.loop-choices.text.items c.push_pick.new.text.items _ inside c.choices-item.is next.quotient c.in_ok-push_pick.ensures c.loop-choices.invariant.written;
      size = next.quotient;
      below = next.below;
    }
