-- The bytes with which a match of a pattern can begin.
use Rattle.std.specs.Prelude.{◌≡◌, ◌⊎◌, ◌<◌, ◌≤◌, ℕ, List, ◌∷◌, length, slice_index}
use Rattle.droid_pattern.specs.Patterns.{Element, Matches, BeginsWithin}
use Rattle.droid_pattern.specs.declared.first_bytes.FirstBytes.{FirstBytes}

-- a byte lies in one of the two ranges
abbrev pub Has : FirstBytes → ℕ → Type 0
Has few b = ((few.low ≤ b) × (b ≤ few.high)) ⊎ ((few.other_low ≤ b) × (b ≤ few.other_high))

-- what an element matches begins with one of them
abbrev pub BeginsIn : FirstBytes → Element → Type 0
BeginsIn few element =
    (bytes : List ℕ) → Matches element bytes → (b : ℕ) × (more : List ℕ) × (bytes ≡ b ∷ more) × Has few b

-- each match of a pattern begins with one of them
abbrev pub AreFirst : FirstBytes → List Element → Type 0
AreFirst few es =
    (bytes : List ℕ) (at : ℕ) → BeginsWithin es bytes at at → (at < length bytes) × Has few (slice_index bytes at)
