-- For inner clauses and proofs: a map that stands for the records so far.
use Rattle.std.specs.Prelude.{◌≡◌, ◌<◌, ℕ, ◌+◌, ◌==◌, List, [], ◌∷◌, ◌++◌, length, map, Option, Some, None, slice_get}
use Rattle.std.specs.Prelude.{if◌then◌else◌}
use Rattle.std.specs.BTreeMap.{get_by_text}
use Rattle.std.specs.Option.{option_and_then, option_map}
use Rattle.std.specs.Str.{bytes_eq}
use Rattle.csv.specs.Records.{fields_of}
use Rattle.droid_frame.specs.declared.hash_value.HashValue.{HashValue}
use Rattle.droid_hash.specs.Findings.{puids_digest}
use Rattle.droid_lists.specs.ProfileRows.{Entry, Found, all_rows, found_in, last_id, puids_by, rows_of}
use Rattle.droid_lists.specs.RowTests.{Row, at, is_file, number_at, utf8_of}
use Rattle.droid_lists.specs.declared.entries.Entries.{Entries}
use Rattle.droid_lists.specs.declared.entries.Listed.{Listed}

-- the place of the record with this path
abbrev pub place_at : Entries → List ℕ → Option ℕ
place_at entries path = get_by_text entries.places path

-- the record with this path
abbrev pub listed_at : Entries → List ℕ → Option Listed
listed_at entries path = option_and_then (slice_get entries.listed.items) (place_at entries path)

-- the ID of a folder
abbrev pub id_of : Option Listed → Option ℕ
id_of None = None
id_of (Some listed) = if is_file (fields_of listed.row) then None else Some (number_at (fields_of listed.row) 0)

-- the ID of the folder with this path, if there is a path
abbrev pub id_at : Entries → Option (List ℕ) → Option ℕ
id_at entries None = None
id_at entries (Some path) = id_of (listed_at entries path)

-- the ID of what lies above: at the top it is 0
abbrev pub parent_by : Entries → List ℕ → Option ℕ
parent_by entries path = if length path == 0 then Some 0 else id_at entries (utf8_of path)

-- what is kept of a record
pub record Kept : Type 0 where
  pub row : Row
  pub number : ℕ
  pub puids : HashValue

-- what is kept of a record that was read
abbrev pub kept_of : Listed → Kept
kept_of listed = record { row = fields_of listed.row; number = listed.number; puids = listed.puids }

-- what is kept of a record that was found
abbrev pub kept_by : Found → Kept
kept_by found =
    record { row = found.entry.first; number = found.number; puids = puids_digest (puids_by (rows_of found.entry)) }

-- what is kept of records, the first of which begins with the row of this number
abbrev pub kept_from : ℕ → List Entry → List Kept
kept_from number [] = []
kept_from number (entry ∷ entries) =
    kept_by (record { entry = entry; number = number }) ∷ kept_from (number + length (rows_of entry)) entries

-- what is kept of all records: the first begins with the second row
abbrev pub kept_in : List Entry → List Kept
kept_in entries = kept_from 2 entries

-- the records are kept in order, and found by their paths
pub record StandsFor (entries : Entries) (all : List Entry) : Type 0 where
  pub rows : entries.rows ≡ length (all_rows all) + 1
  pub last : entries.last ≡ last_id all
  pub kept : map kept_of entries.listed.items ≡ kept_in all
  pub listed : (path : List ℕ) → option_map kept_of (listed_at entries path) ≡ option_map kept_by (found_in all path)
  pub within : (path : List ℕ) (place : ℕ) → place_at entries path ≡ Some place → place < length entries.listed.items

-- one more record is kept
pub record AddsEntry (old new : Entries) (count : ℕ) (listed : Listed) : Type 0 where
  pub rows : new.rows ≡ old.rows + count
  pub last : new.last ≡ number_at (fields_of listed.row) 0
  pub pushed : new.listed.items ≡ old.listed.items ++ listed ∷ []
  pub places : (path : List ℕ)
      → place_at new path
      ≡ (if bytes_eq path (at (fields_of listed.row) 3) then Some (length old.listed.items) else place_at old path)
