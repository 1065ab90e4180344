-- The words so far are 0, the others are as they were.
use Rattle.std.proofs.Common.{◌≡◌, ◌<◌, ◌≤◌, ℕ, length, get_or}
use Rattle.droid_pattern.proofs.bit_sets.run.clear_before.Given as goal

abbrev pub invariant-loop-place : goal.invariant-loop-place
invariant-loop-place l =
    (length l.words ≡ length l.fn.words)
    × ((j : ℕ) → j < l.place → get_or l.words j 0 ≡ 0)
    × ((j : ℕ) → l.place ≤ j → get_or l.words j 0 ≡ get_or l.fn.words j 0)
