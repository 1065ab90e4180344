-- the places before this one are listed
use Rattle.std.proofs.Common.{ℕ, ◌<◌, Contains}
use Rattle.droid_profile.proofs.lanes.reader.places_below.Given as goal

abbrev pub invariant-loop-place : goal.invariant-loop-place
invariant-loop-place l = (place : ℕ) → place < l.place → Contains l.places.items place
