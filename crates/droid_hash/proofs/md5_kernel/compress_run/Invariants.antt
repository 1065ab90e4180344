use Rattle.std.proofs.Common.{◌≡◌, ℕ, ◌<◌, fold, take}
use Rattle.md5.specs.Md5.{compress}
use Rattle.droid_hash.specs.Lanes.{lane, piece}
use Rattle.droid_hash.proofs.md5_kernel.compress_run.Given as goal

abbrev pub invariant-each : goal.invariant-each
invariant-each l = (j : ℕ) → j < 8 → lane j l.state ≡ fold compress (lane j l.fn.state) (take l.i (piece j l.runs))
