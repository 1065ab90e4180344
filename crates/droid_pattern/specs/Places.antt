-- A set of places as a list of words: place p is bit p % 64 of word p / 64.
use Rattle.std.specs.Prelude.{◌≡◌, ◌↔◌, ℕ, ◌+◌, ◌*◌, ◌/◌, ◌%◌, ◌<◌, ◌≤◌, List, length, slice_index}
use Rattle.std.specs.Int.{bit_at}

-- the place is in the set; no place past the last word is
unfoldable pub IsPlace : List ℕ → ℕ → Type 0
IsPlace words p = bit_at (slice_index words (p / 64)) (p % 64) ≡ 1

-- The new set holds each place that lies from `least` to `most` above a place of the old set, within the words of the
-- old set.
abbrev pub Moves : List ℕ → List ℕ → ℕ → ℕ → Type 0
Moves old new least most =
    (q : ℕ) → IsPlace new q ↔ ((q < 64 * length old) × ((p : ℕ) × IsPlace old p × (p + least ≤ q) × (q ≤ p + most)))
