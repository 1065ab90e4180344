use Rattle.std.proofs.Common.{◌≡◌, ◌-◌, ◌<◌, ℕ, fold, length, take}
use Rattle.sha2.specs.Sha256.{compress}
use Rattle.droid_hash.specs.Lanes.{lane8, piece}
use Rattle.droid_hash.proofs.sha256_runs.take_runs.Given as goal

abbrev pub invariant-parts : goal.invariant-parts
invariant-parts l = (j : ℕ) → j < 4 → lane8 j l.state ≡ fold compress (lane8 j l.fn.state) (take l.at (piece j l.runs))

abbrev pub decreases-parts : goal.decreases-parts
decreases-parts l = length l.filler - l.at
