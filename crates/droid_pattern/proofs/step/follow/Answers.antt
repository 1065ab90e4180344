-- One more byte of the literal, and all of them.
use Rattle.std.proofs.Common.{◌≡◌, length, arith}
use Rattle.droid_pattern.proofs.StepLemmas.{chain_more}
use Rattle.droid_pattern.proofs.step.follow.Goals as goal

pub loop-place-preserved : goal.loop-place-preserved
loop-place-preserved c = (
  c.one.ensures.sets,
  chain_more c.args.direction c.args.bytes.now c.args.literal.now c.loop-place.place c.byte_behind-wanted.result c.args.bits.now c.loop-place.bits c.one.new.bits
      c.byte_behind-wanted.ensures c.in_ok-one.ensures.moved c.loop-place.invariant.1,
)

pub returns-clause-chain : goal.returns-clause-chain
returns-clause-chain c =
    let all : c.loop-place.place ≡ length c.args.literal.now = omega (arith, c.loop-place.auto.place-end) in
    rw all at c.loop-place.invariant.1
