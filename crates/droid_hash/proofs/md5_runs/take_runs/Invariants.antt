use Rattle.std.proofs.Common.{◌≡◌, ◌-◌, ◌<◌, ℕ, fold, length, take}
use Rattle.md5.specs.Md5.{compress}
use Rattle.droid_hash.specs.Lanes.{lane, piece}
use Rattle.droid_hash.proofs.md5_runs.take_runs.Given as goal

abbrev pub invariant-parts : goal.invariant-parts
invariant-parts l = (j : ℕ) → j < 8 → lane j l.state ≡ fold compress (lane j l.fn.state) (take l.at (piece j l.runs))

abbrev pub decreases-parts : goal.decreases-parts
decreases-parts l = length l.filler - l.at
