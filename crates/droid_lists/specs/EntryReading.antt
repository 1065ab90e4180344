-- For inner clauses and proofs: what the calls that read one record promise, behind any records that were read.
use Rattle.std.specs.Prelude.{◌≡◌, ◌<◌, ℕ, ◌+◌, ◌^◌, List, [], ◌∷◌, ◌++◌, length, Option, Some, None, Result, Ok, Err}
use Rattle.std.specs.Borrow.{Bor}
use Rattle.std.specs.List.{flat_map}
use Rattle.droid_frame.specs.declared.hash_kind.HashKind.{HashKind}
use Rattle.droid_export.specs.Csv.{line}
use Rattle.droid_lists.specs.EntryMaps.{StandsFor}
use Rattle.droid_lists.specs.FormatMaps.{HasOwn, IsKnown}
use Rattle.droid_lists.specs.ProfileRows.{AreMore, Entry, IsEntry, all_rows, entry_text, wrong_first, wrong_more}
use Rattle.droid_lists.specs.ProfileTexts.{IsWrongEntry, IsWrongRow}
use Rattle.droid_lists.specs.RowTests.{Row, rows_in}
use Rattle.droid_lists.specs.Spelling.{Spells}
use Rattle.droid_lists.specs.declared.entries.Entries.{Entries}
use Rattle.droid_lists.specs.declared.spelling.row_formats.Formats.{Formats}
use Rattle.droid_lists.specs.declared.spelling.own_puids.OwnPuids.{OwnPuids}
use Rattle.droid_lists.specs.declared.spelling.reading.Reading.{Reading}
use Rattle.droid_lists.specs.declared.spelling.reading.WrongRow.{WrongRow}

-- ---- the first row

-- a first row is wrong in this column, or its format is noted
abbrev pub NotesFirst : Option ℕ → List Entry → Formats → OwnPuids → HashKind → Row → Type 0
NotesFirst (Some column) all new own hash row = wrong_first hash all row ≡ Some column
NotesFirst None all new own hash row =
    (wrong_first hash all row ≡ None) × IsKnown new (all_rows all ++ row ∷ []) × HasOwn own (row ∷ [])

-- the same of whatever was read before
abbrev pub TakesFirst : Option ℕ → Entries → Formats → Formats → OwnPuids → OwnPuids → HashKind → Row → Type 0
TakesFirst wrong entries old new own_old own_new hash row =
    (all : List Entry) → StandsFor entries all → IsKnown old (all_rows all) → HasOwn own_old []
    → NotesFirst wrong all new own_new hash row

-- ---- one more row

-- one more row is wrong in this column, or its format is noted
abbrev pub NotesMore : Option ℕ → List Entry → Formats → OwnPuids → Row → List Row → Row → Type 0
NotesMore (Some column) all new own first more row = wrong_more all first more row ≡ Some column
NotesMore None all new own first more row =
    (wrong_more all first more row ≡ None) × IsKnown new (all_rows all ++ first ∷ (more ++ row ∷ []))
    × HasOwn own (first ∷ (more ++ row ∷ []))

-- the same of whatever was read before
abbrev pub TakesMore : Option ℕ → Formats → Formats → OwnPuids → OwnPuids → Row → Row → Type 0
TakesMore wrong old new own_old own_new first row =
    (all : List Entry) (more : List Row) → IsKnown old (all_rows all ++ first ∷ more) → HasOwn own_old (first ∷ more)
    → NotesMore wrong all new own_new first more row

-- the row in front of a text, which is right, and what is behind it
pub record ReadsRow (all : List Entry) (new : Formats) (own : OwnPuids) (first : Row) (more : List Row)
    (text rest : List ℕ) : Type 0 where
  pub row : Row
  pub spelled : Spells text row rest
  pub right : wrong_more all first more row ≡ None
  pub known : IsKnown new (all_rows all ++ first ∷ (more ++ row ∷ []))
  pub has : HasOwn own (first ∷ (more ++ row ∷ []))

-- one more row was read from the front of a text, or is wrong in this column
abbrev pub ReadsMore : Result (Bor (List ℕ)) ℕ → List Entry → Formats → OwnPuids → Row → List Row → List ℕ → Type 0
ReadsMore (Ok rest) all new own first more text = ReadsRow all new own first more text rest.now
ReadsMore (Err column) all new own first more text = IsWrongRow (wrong_more all first more) text column

-- the same of whatever was read before
abbrev pub TakesRow : Result (Bor (List ℕ)) ℕ → Formats → Formats → OwnPuids → OwnPuids → Row → List ℕ → Type 0
TakesRow read old new own_old own_new first text =
    (all : List Entry) (more : List Row) → IsKnown old (all_rows all ++ first ∷ more) → HasOwn own_old (first ∷ more)
    → ReadsMore read all new own_new first more text

-- ---- all rows behind the first

-- so many rows were read behind the first
pub record HaveCome (all : List Entry) (new : Formats) (own : OwnPuids) (first : Row) (text rest : List ℕ) (count : ℕ)
    : Type 0 where
  pub more : List Row
  pub counted : length more + 1 ≡ count
  pub are : AreMore all first [] more
  pub whole : text ≡ flat_map line more ++ rest
  pub known : IsKnown new (all_rows all ++ first ∷ more)
  pub has : HasOwn own (first ∷ more)

-- one of them is wrong
pub record IsWrongMore (all : List Entry) (first : Row) (text : List ℕ) (rows column : ℕ) : Type 0 where
  pub more : List Row
  pub rest : List ℕ
  pub counted : length more + 1 ≡ rows
  pub below : rows < rows_in first
  pub are : AreMore all first [] more
  pub whole : text ≡ flat_map line more ++ rest
  pub wrong : IsWrongRow (wrong_more all first more) rest column

-- all rows of a record behind its first were read, or one is wrong
abbrev pub ReadsRows : Result (Bor (List ℕ)) WrongRow → List Entry → Formats → OwnPuids → Row → List ℕ → Type 0
ReadsRows (Ok rest) all new own first text = HaveCome all new own first text rest.now (rows_in first)
ReadsRows (Err wrong) all new own first text = IsWrongMore all first text wrong.rows wrong.column

-- the same of whatever was read before
abbrev pub TakesRows : Result (Bor (List ℕ)) WrongRow → Formats → Formats → OwnPuids → OwnPuids → Row → List ℕ → Type 0
TakesRows read old new own_old own_new first text =
    (all : List Entry) → IsKnown old (all_rows all ++ first ∷ []) → HasOwn own_old (first ∷ [])
    → ReadsRows read all new own_new first text

-- ---- a record

-- all that was read stands for these records
pub record StandsForAll (reading : Reading) (all : List Entry) : Type 0 where
  pub entries : StandsFor reading.entries all
  pub formats : IsKnown reading.formats (all_rows all)

-- the record in front of a text, which is right, and what is behind it
pub record IsRead (hash : HashKind) (all : List Entry) (new : Reading) (text rest : List ℕ) : Type 0 where
  pub entry : Entry
  pub is : IsEntry hash all entry
  pub whole : text ≡ entry_text entry ++ rest
  pub stands : StandsForAll new (all ++ entry ∷ [])

-- a record was read from the front of a text, or is wrong
abbrev pub ReadsEntry : Result (Bor (List ℕ)) WrongRow → List Entry → Reading → HashKind → List ℕ → Type 0
ReadsEntry (Ok rest) all new hash text = IsRead hash all new text rest.now
ReadsEntry (Err wrong) all new hash text = IsWrongEntry hash all text wrong.column wrong.rows

-- the same of whatever was read before
abbrev pub TakesEntry : Result (Bor (List ℕ)) WrongRow → Reading → Reading → HashKind → List ℕ → Type 0
TakesEntry read old new hash text =
    (all : List Entry) → StandsForAll old all → length (all_rows all) + 1 + length text < 2 ^ 64
    → ReadsEntry read all new hash text
