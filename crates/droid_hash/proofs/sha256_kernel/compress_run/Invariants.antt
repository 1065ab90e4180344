use Rattle.std.proofs.Common.{◌≡◌, ℕ, ◌<◌, fold, take}
use Rattle.sha2.specs.Sha256.{compress}
use Rattle.droid_hash.specs.Lanes.{lane8, piece}
use Rattle.droid_hash.proofs.sha256_kernel.compress_run.Given as goal

abbrev pub invariant-each : goal.invariant-each
invariant-each l = (j : ℕ) → j < 4 → lane8 j l.state ≡ fold compress (lane8 j l.fn.state) (take l.i (piece j l.runs))
