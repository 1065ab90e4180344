-- The words before the place have both, the others are as they were.
use Rattle.std.proofs.Common.{◌≡◌, ◌<◌, ◌≤◌, ℕ, length, get_or}
use Rattle.std.specs.Prelude.{bit_or}
use Rattle.droid_pattern.proofs.bit_sets.combination.join_words.Given as goal

abbrev pub invariant-loop-place : goal.invariant-loop-place
invariant-loop-place l =
    (length l.words ≡ length l.fn.words)
    × ((j : ℕ) → j < l.place → get_or l.words j 0 ≡ bit_or (get_or l.fn.words j 0) (get_or l.others j 0))
    × ((j : ℕ) → l.place ≤ j → get_or l.words j 0 ≡ get_or l.fn.words j 0)
