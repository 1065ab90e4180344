use Rattle.std.proofs.Common.{ℕ, ◌*◌, ◌<◌}
use Rattle.sha2.specs.Sha256.{IsRoundsAt}
use Rattle.droid_hash.specs.Lanes.{lane8, piece, words}
use Rattle.droid_hash.proofs.sha256_kernel.compress_four.Given as goal

abbrev pub invariant-schedule : goal.invariant-schedule
invariant-schedule l = (j : ℕ) → j < 4 → IsRoundsAt (piece j l.blocks) (lane8 j l.state) (words j l.w) (lane8 j l.v) (16 * l.turn)
