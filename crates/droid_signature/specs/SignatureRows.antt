-- The signatures of a registry that stand for one of a signature file.
use Rattle.std.specs.Prelude.{◌≡◌, ℕ, zero, suc, ◌*◌, ◌/◌, ◌%◌, List, [], ◌∷◌, ◌++◌, length, map, take, drop, ⊤}
use Rattle.std.specs.List.{AllByRecursion, flat_map}
use Rattle.droid_pattern.specs.Patterns.{Element}
use Rattle.droid_pronom.specs.declared.rows.Offsets.{Offsets}
use Rattle.droid_signature_pattern.specs.declared.choices.Choices.{Choices}
use Rattle.droid_signature.specs.RegistryTables.{SequenceFits, SequenceRow, SignatureRow, sequence_of}
use Rattle.droid_signature_file.specs.Records.{ByteSequenceRecord}
use Rattle.droid_signature_file.specs.Sequences.{StandFor, choices}

-- the rows of what a byte sequence becomes: one for each text, with its offsets
pub record AreWritten (choices : Choices) (rows : List SequenceRow) : Type 0 where
  pub texts : map (λ row. row.text) rows ≡ choices.texts
  pub offsets : AllByRecursion (λ row. row.offsets ≡ choices.offsets) rows

-- such rows for all byte sequences of a signature
abbrev pub AreAllWritten : List Choices → List (List SequenceRow) → Type 0
AreAllWritten [] [] = ⊤
AreAllWritten [] (rows ∷ lists) = ⊥
AreAllWritten (choices ∷ all) [] = ⊥
AreAllWritten (choices ∷ all) (rows ∷ lists) = AreWritten choices rows × AreAllWritten all lists

-- any of the rows has to hit where a byte sequence of the file does, and a registry takes each of them
pub record RowsFor (sequence : ByteSequenceRecord) (rows : List SequenceRow) : Type 0 where
  pub offsets : Offsets
  pub patterns : List (List Element)
  pub stand : StandFor sequence offsets patterns
  pub same : map sequence_of rows ≡ choices offsets patterns
  pub fit : AllByRecursion SequenceFits rows

-- such rows for each byte sequence of a signature
abbrev pub AreRowsFor : List ByteSequenceRecord → List (List SequenceRow) → Type 0
AreRowsFor [] [] = ⊤
AreRowsFor [] (rows ∷ more) = ⊥
AreRowsFor (sequence ∷ sequences) [] = ⊥
AreRowsFor (sequence ∷ sequences) (rows ∷ more) = RowsFor sequence rows × AreRowsFor sequences more

-- in how many ways one of each can be chosen
abbrev pub ways_of : List (List SequenceRow) → ℕ
ways_of [] = 1
ways_of (rows ∷ more) = length rows * ways_of more

-- one of each, by the number of the way: the first changes slowest
abbrev pub combination : List (List SequenceRow) → ℕ → List SequenceRow
combination [] number = []
combination (rows ∷ more) number =
    take 1 (drop (number / ways_of more) rows) ++ combination more (number % ways_of more)

-- a signature of the registry for each way with a number below this one
abbrev pub rows_below : ℕ → List ℕ → List (List SequenceRow) → ℕ → List SignatureRow
rows_below place puid lists zero = []
rows_below place puid lists (suc number) =
    rows_below place puid lists number
    ++ record { place = place; puid = puid; sequences = combination lists number } ∷ []

-- a signature of the registry for each way
abbrev pub rows_of : ℕ → List ℕ → List (List SequenceRow) → List SignatureRow
rows_of place puid lists = rows_below place puid lists (ways_of lists)

-- all of them, one after the other
abbrev pub flat : List (List SignatureRow) → List SignatureRow
flat lists = flat_map (λ rows. rows) lists
