-- the lanes before this one are idle
use Rattle.std.proofs.Common.{◌≡◌, ℕ, ◌<◌, false, Some, slice_get}
use Rattle.droid_profile.specs.declared.lanes.file_lane.FileLane.{FileLane}
use Rattle.droid_profile.proofs.lanes.lane_hashes.are_idle.Given as goal

abbrev pub invariant-loop-lane : goal.invariant-loop-lane
invariant-loop-lane l = (j : ℕ) (its : FileLane) → j < l.lane-index → slice_get l.lanes j ≡ Some its → its.busy ≡ false
