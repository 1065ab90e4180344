-- the lanes before this one passed on
use Rattle.droid_profile.specs.LaneSteps.{PassedBelow}
use Rattle.droid_profile.proofs.lanes.lane_hashes.pass_all.Given as goal

abbrev pub invariant-loop-lane : goal.invariant-loop-lane
invariant-loop-lane l = PassedBelow l.fn.lanes.items l.lanes.items l.count l.lane
