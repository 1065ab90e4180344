-- The words from the place on are moved, the others are as they were.
use Rattle.std.proofs.Common.{◌≡◌, ◌<◌, ◌≤◌, ℕ, length, get_or}
use Rattle.droid_pattern.proofs.MoveLemmas.{IsMovedWord}
use Rattle.droid_pattern.proofs.MaskedStepLemmas.{kept}
use Rattle.droid_pattern.proofs.bit_sets.masked_step.step_kept.Given as goal

abbrev pub invariant-loop-place : goal.invariant-loop-place
invariant-loop-place l =
    (length l.words ≡ length l.fn.words)
    × ((j : ℕ) → l.place ≤ j → j < length l.words → IsMovedWord (kept l.fn.words l.others) 1 j (get_or l.words j 0))
    × ((j : ℕ) → j < l.place → get_or l.words j 0 ≡ get_or l.fn.words j 0)
    × (1 ≤ l.place)
