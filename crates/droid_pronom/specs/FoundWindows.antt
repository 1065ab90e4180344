-- For inner clauses and proofs: how a file is identified from its first and last bytes, and the flags that the steps
-- return for each format.
use Rattle.std.specs.Prelude.{◌≡◌, ◌↔◌, ℕ, Bool, true, not, ◌&&◌, List, [], ◌∷◌, Some, slice_get}
use Rattle.droid_pattern.specs.Patterns.{BeginsWithin, EndsWithin}
use Rattle.droid_pronom.specs.declared.rows.Anchor.{Anchor}
use Rattle.droid_pronom.specs.declared.rows.Anchor.TheVariants.{Bof, Eof}
use Rattle.droid_pronom.specs.declared.rows.ByteSequence.{ByteSequence}

-- a byte sequence with this anchor hits in the first and last bytes of a file
abbrev pub HitsWindowsFrom : Anchor → List ℕ → List ℕ → ByteSequence → Type 0
HitsWindowsFrom Bof first last sequence = BeginsWithin sequence.pattern first sequence.offsets.min sequence.offsets.max
HitsWindowsFrom Eof first last sequence = EndsWithin sequence.pattern last sequence.offsets.min sequence.offsets.max

-- a byte sequence hits in the first and last bytes of a file
abbrev pub HitsWindows : List ℕ → List ℕ → ByteSequence → Type 0
HitsWindows first last sequence = HitsWindowsFrom sequence.offsets.anchor first last sequence

-- the flag at a place is set
abbrev pub Stands : List Bool → ℕ → Type 0
Stands flags k = slice_get flags k ≡ Some true

-- the flags that are set are those whose places satisfy P
abbrev pub AreFlagsOf : List Bool → (ℕ → Type 0) → Type 0
AreFlagsOf flags P = (k : ℕ) → Stands flags k ↔ P k

-- each flag of the first list, unless the second list has a flag at its place
abbrev pub without : List Bool → List Bool → List Bool
without [] other = []
without (flag ∷ flags) [] = []
without (flag ∷ flags) (other ∷ others) = (flag && not other) ∷ without flags others
