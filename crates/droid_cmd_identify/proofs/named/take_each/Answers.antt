use Rattle.std.proofs.Common.{arith}
use Rattle.droid_cmd_identify.proofs.SayLemmas.{goes_all, goes_next}
use Rattle.droid_cmd_identify.proofs.named.take_each.Goals as goal

pub loop-place-preserved : goal.loop-place-preserved
loop-place-preserved g c =
    goes_next (λ old name new. g.T.Taker.takes old name.now new) c.args.names.now c.loop-place.place c.args.taker.now c.loop-place.taker c.loop-place.invariant _ c.take.new.self c.in_ok-take.ensures (omega (arith, c.loop-place-test.true))

pub returns : goal.returns
returns g c = goes_all (λ old name new. g.T.Taker.takes old name.now new) c.args.names.now c.loop-place.place c.args.taker.now c.loop-place.taker c.loop-place.invariant c.loop-place-test.false
