-- The words from the place on are 0.
use Rattle.std.proofs.Common.{◌≡◌, ◌≤◌, ℕ, get_or}
use Rattle.droid_pattern.proofs.bit_sets.ends.used.Given as goal

abbrev pub invariant-loop-place : goal.invariant-loop-place
invariant-loop-place l = (k : ℕ) → l.place ≤ k → get_or l.words k 0 ≡ 0
