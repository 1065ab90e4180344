-- One text for each byte sequence, and the rows that they are written as.
use Rattle.std.specs.Prelude.{ℕ, zero, suc, ◌/◌, ◌%◌, List, [], ◌∷◌, ◌++◌, map, codes, decimal, slice_index_or}
use Rattle.std.specs.List.{flat_map}
use Rattle.droid_signature.specs.Csv.{line}
use Rattle.droid_pronom.specs.declared.rows.Offsets.{Offsets}
use Rattle.droid_signature_pattern.specs.Choices.{ways}
use Rattle.droid_signature_pattern.specs.declared.choices.Choices.{Choices}
use Rattle.droid_signature.specs.RegistryTables.{anchor_text}

-- a byte sequence: its offsets, and a text
pub record Pick : Type 0 where
  pub offsets : Offsets
  pub text : List ℕ

-- with the text at a place
abbrev pub pick : Choices → ℕ → Pick
pick choices place = record { offsets = choices.offsets; text = slice_index_or choices.texts place [] }

-- one of each, by the number of the way: the first changes slowest
abbrev pub picks : List Choices → ℕ → List Pick
picks [] number = []
picks (choices ∷ more) number = pick choices (number / ways more) ∷ picks more (number % ways more)

-- the fields of a row, by its letter
abbrev pub pick_fields : (letter puid : List ℕ) → Pick → List (List ℕ)
pick_fields letter puid it =
    letter ∷ puid ∷ anchor_text it.offsets.anchor ∷ decimal it.offsets.min ∷ decimal it.offsets.max ∷ it.text ∷ []

-- the fields of the rows of byte sequences behind the first
abbrev pub further_fields : List ℕ → List Pick → List (List (List ℕ))
further_fields puid its = map (pick_fields (codes "B") puid) its

-- the rows of a signature
abbrev pub pick_rows : List ℕ → List Pick → List (List (List ℕ))
pick_rows puid [] = []
pick_rows puid (it ∷ its) = pick_fields (codes "S") puid it ∷ further_fields puid its

-- the text of the ways with a number below this one
abbrev pub lines_below : List ℕ → List Choices → ℕ → List ℕ
lines_below puid all zero = []
lines_below puid all (suc number) = lines_below puid all number ++ flat_map line (pick_rows puid (picks all number))
