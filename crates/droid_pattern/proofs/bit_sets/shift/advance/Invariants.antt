-- The words from the place on are moved, the others are as they were.
use Rattle.std.proofs.Common.{◌≡◌, ◌<◌, ◌≤◌, ◌+◌, ◌*◌, ℕ, length, get_or}
use Rattle.droid_pattern.proofs.MoveLemmas.{IsMovedWord}
use Rattle.droid_pattern.proofs.bit_sets.shift.advance.Given as goal

abbrev pub invariant-loop-place : goal.invariant-loop-place
invariant-loop-place l =
    (length l.words ≡ length l.fn.words)
    × ((j : ℕ) → l.place ≤ j → j < length l.words → IsMovedWord l.fn.words (64 * l.whole + l.part) j (get_or l.words j 0))
    × ((j : ℕ) → j < l.place → get_or l.words j 0 ≡ get_or l.fn.words j 0)
    × (l.edge ≤ l.place)

abbrev pub invariant-loop-place-2 : goal.invariant-loop-place-2
invariant-loop-place-2 l =
    (length l.words ≡ length l.fn.words)
    × ((j : ℕ) → l.place ≤ j → j < length l.words → IsMovedWord l.fn.words (64 * l.whole + l.part) j (get_or l.words j 0))
    × ((j : ℕ) → j < l.place → get_or l.words j 0 ≡ get_or l.fn.words j 0)
