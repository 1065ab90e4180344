use Rattle.std.proofs.Common.{length, refl, arith}
use Rattle.std.proofs.lemmas.Option.{slice_get_read, slice_get_within}
use Rattle.droid_profile.proofs.PassSteps.{idle_more}
use Rattle.droid_profile.proofs.lanes.lane_hashes.are_idle.Goals as goal

pub returns-then-lane-clause-busy : goal.returns-then-lane-clause-busy
returns-then-lane-clause-busy c = λ is. record {
  j = c.loop-lane.lane-index;
  lane = c.lane-item.result;
  there = slice_get_read c.args.lanes.now (length c.args.lanes.now) c.loop-lane.lane-index c.lane-item.result refl c.loop-lane-test.true c.lane-item.is;
  busy = c.if-lane.true;
}

pub loop-lane-preserved : goal.loop-lane-preserved
loop-lane-preserved c = idle_more c.args.lanes.now c.loop-lane.lane-index c.lane-item.result c.loop-lane.invariant c.loop-lane-test.true c.lane-item.is c.if-lane.false

pub returns-clause-idle : goal.returns-clause-idle
returns-clause-idle c = λ is j its there. c.loop-lane.invariant j its (omega (arith, c.loop-lane-test.false, slice_get_within c.args.lanes.now j its there)) there
