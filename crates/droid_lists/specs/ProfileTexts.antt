-- Which texts a profile can have, and where another one is wrong first (docs/CSV.md).
use Rattle.std.specs.Prelude.{◌≡◌, ◌<◌, ℕ, ◌+◌, zero, suc, List, [], ◌∷◌, ◌++◌, ◌⊎◌, length, Option, Some, None}
use Rattle.std.specs.Prelude.{if◌then◌else◌}
use Rattle.std.specs.Str.{bytes_eq}
use Rattle.droid_frame.specs.declared.hash_kind.HashKind.{HashKind}
use Rattle.droid_export.specs.Csv.{line}
use Rattle.droid_export.specs.Rows.{fields, header}
use Rattle.std.specs.List.{flat_map}
use Rattle.droid_lists.specs.ProfileRows.{AreEntries, AreMore, Entry, all_rows, entries_text, wrong_first, wrong_more}
use Rattle.droid_lists.specs.RowTests.{Row, at, rows_in}
use Rattle.droid_lists.specs.Spelling.{Breaks, Spells}

-- ---- the names of the columns

-- the names of all columns
abbrev pub names_of : HashKind → Row
names_of hash = fields (header hash)

-- the name of a column, counted from 0
abbrev pub name_of : HashKind → ℕ → List ℕ
name_of hash column = at (names_of hash) column

-- the first of so many columns from this one on that has another name
unfoldable pub other_from : ℕ → ℕ → Row → Row → Option ℕ
other_from zero column names due = None
other_from (suc count) column names due =
    if bytes_eq (at names column) (at due column) then other_from count (column + 1) names due else Some column

-- the first column that has another name
abbrev pub other_name : HashKind → Row → Option ℕ
other_name hash names = other_from 18 0 names (names_of hash)

-- ---- texts

-- the one spelling of these records
abbrev pub profile_text : HashKind → List Entry → List ℕ
profile_text hash entries = line (names_of hash) ++ entries_text entries

-- a text that a profile with this kind of hash can have
pub record IsProfileText (hash : HashKind) (text : List ℕ) (entries : List Entry) : Type 0 where
  pub whole : text ≡ profile_text hash entries
  pub are : AreEntries hash entries

-- 18 fields come, and this column is the first that is wrong
pub record IsOther (wrong : Row → Option ℕ) (text : List ℕ) (column : ℕ) : Type 0 where
  pub row : Row
  pub rest : List ℕ
  pub spelled : Spells text row rest
  pub other : wrong row ≡ Some column

-- the row in front of a text is wrong first in this column
abbrev pub IsWrongRow : (Row → Option ℕ) → List ℕ → ℕ → Type 0
IsWrongRow wrong text column = Breaks text column ⊎ IsOther wrong text column

-- The record in front of a text is wrong: in its first row, or in one behind it. So many of its rows come before that
-- one.
pub data IsWrongEntry (hash : HashKind) (entries : List Entry) (text : List ℕ) (column rows : ℕ) : Type 0 where
  InFirst : rows ≡ 0 → IsWrongRow (wrong_first hash entries) text column → IsWrongEntry hash entries text column rows
  InMore : (first : Row) (more : List Row) (rest : List ℕ) → rows ≡ length more + 1 → length first ≡ 18
      → wrong_first hash entries first ≡ None
      → AreMore entries first [] more → rows < rows_in first → text ≡ flat_map line (first ∷ more) ++ rest
      → IsWrongRow (wrong_more entries first more) rest column → IsWrongEntry hash entries text column rows

-- A text is wrong first here: in the names of the columns, or in the record behind these. Rows are counted from 1,
-- which is that of the names.
pub data IsWrong (hash : HashKind) (text : List ℕ) (column number : ℕ) : Type 0 where
  InNames : number ≡ 1 → IsWrongRow (other_name hash) text column → IsWrong hash text column number
  InEntry : (entries : List Entry) (rest : List ℕ) (rows : ℕ) → number ≡ length (all_rows entries) + 2 + rows
      → AreEntries hash entries
      → text ≡ profile_text hash entries ++ rest → (rest ≡ [] → ⊥) → IsWrongEntry hash entries rest column rows
      → IsWrong hash text column number
