-- the first lanes were made
use Rattle.std.proofs.Common.{◌≡◌, ℕ, Some, length, slice_get}
use Rattle.droid_profile.specs.declared.lanes.file_lane.FileLane.{FileLane}
use Rattle.droid_profile.proofs.lanes.batch.idle_lanes.Given as goal

abbrev pub invariant-loop : goal.invariant-loop
invariant-loop l = record {
  counted : length l.lanes.items ≡ l.counter;
  limits : (j : ℕ) (its : FileLane) → slice_get l.lanes.items j ≡ Some its → its.ends.limit ≡ l.limit;
}
