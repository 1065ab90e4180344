-- Which rows a profile's text may have behind the rows before them (docs/CSV.md).
use Rattle.std.specs.Prelude.{◌≡◌, ℕ, ◌+◌, ◌==◌, ◌&&◌, ◌||◌, not, nat_lt, Bool, List, [], ◌∷◌, ◌++◌, length, Option}
use Rattle.std.specs.Prelude.{Some, None, if◌then◌else◌}
use Rattle.std.specs.List.{find, flat_map, fold, list_any}
use Rattle.std.specs.Option.{is_some, option_map}
use Rattle.std.specs.Str.{bytes_eq}
use Rattle.droid_frame.specs.declared.hash_kind.HashKind.{HashKind}
use Rattle.droid_export.specs.Csv.{line}
use Rattle.droid_export.specs.Filters.{is_among}
use Rattle.droid_lists.specs.RowTests.{Row, above, at, content_tests, first_wrong, format_tests, formats_in, is_file}
use Rattle.droid_lists.specs.RowTests.{number_at, or_later, place_tests, rows_in, shared_tests, texts_in, utf8_of}
use Rattle.droid_lists.specs.declared.spelling.row_formats.Texts.{Texts}

-- ---- records

-- The rows of a folder or file: the first, and one more for each further format.
pub record Entry : Type 0 where
  pub first : Row
  pub more : List Row

-- the rows of a record, in order
abbrev pub rows_of : Entry → List Row
rows_of entry = entry.first ∷ entry.more

-- the rows of all records, in order
abbrev pub all_rows : List Entry → List Row
all_rows entries = flat_map rows_of entries

-- ---- what earlier records say

-- the last ID, or 0 before the first record
abbrev pub last_id : List Entry → ℕ
last_id entries = fold (λ last entry. number_at entry.first 0) 0 entries

-- a record of a text, and the number of its first row
pub record Found : Type 0 where
  pub entry : Entry
  pub number : ℕ

-- the first record with a path, where the first of these begins with the row of this number
abbrev pub found_from : ℕ → List Entry → List ℕ → Option Found
found_from number [] path = None
found_from number (entry ∷ entries) path =
    if bytes_eq path (at entry.first 3) then Some (record { entry = entry; number = number })
    else found_from (number + length (rows_of entry)) entries path

-- the record with this path; the first row behind the names of the columns has number 2
abbrev pub found_in : List Entry → List ℕ → Option Found
found_in entries path = found_from 2 entries path

-- the ID of a folder
abbrev pub folder_id : Option Found → Option ℕ
folder_id None = None
folder_id (Some found) = if is_file found.entry.first then None else Some (number_at found.entry.first 0)

-- the ID of the folder with this path, if there is a path
abbrev pub folder_at : List Entry → Option (List ℕ) → Option ℕ
folder_at entries None = None
folder_at entries (Some path) = folder_id (found_in entries path)

-- the ID of what lies above: at the top it is 0
abbrev pub parent_in : List Entry → List ℕ → Option ℕ
parent_in entries path = if length path == 0 then Some 0 else folder_at entries (utf8_of path)

-- ---- what earlier rows say of formats

-- a row has this PUID; a row without a format has none
abbrev pub has_puid : List ℕ → Row → Bool
has_puid puid row = not (length (at row 14) == 0) && bytes_eq puid (at row 14)

-- what the first row with a PUID says of it, which all others repeat
abbrev pub known_in : List Row → List ℕ → Option Texts
known_in rows puid = option_map texts_in (find (has_puid puid) rows)

-- the PUID of a row, if it has one
abbrev pub puid_in : Row → List (List ℕ)
puid_in row = if length (at row 14) == 0 then [] else at row 14 ∷ []

-- the PUIDs of the rows of a record, in order
abbrev pub puids_by : List Row → List (List ℕ)
puids_by rows = flat_map puid_in rows

-- these PUIDs and one more, unless it is empty or among them
abbrev pub with_puid : List (List ℕ) → List ℕ → List (List ℕ)
with_puid puids puid = if (length puid == 0) || is_among puids puid then puids else puids ++ puid ∷ []

-- the PUIDs of rows, each once
abbrev pub puids_in : List Row → List (List ℕ)
puids_in rows = fold (λ puids row. with_puid puids (at row 14)) [] rows

-- ---- the first wrong column

-- the format of a row, whose record has so many formats, behind these rows, of which these are of the same record; a
-- registry has at most 4,096 formats
abbrev pub wrong_format : List Row → List Row → ℕ → Row → Option ℕ
wrong_format before own count row =
    first_wrong
    (format_tests (known_in before (at row 14)) (list_any (has_puid (at row 14)) own)
    (nat_lt (length (puids_in before)) 4096) count row)

-- a row that begins a record behind these
unfoldable pub wrong_first : HashKind → List Entry → Row → Option ℕ
wrong_first hash entries row =
    or_later
    (first_wrong
    (place_tests (last_id entries) (is_some (found_in entries (at row 3))) (parent_in entries (above row)) row))
    (or_later (first_wrong (content_tests hash row)) (wrong_format (all_rows entries) [] (formats_in row) row))

-- a row behind these of a record
unfoldable pub wrong_more : List Entry → Row → List Row → Row → Option ℕ
wrong_more entries first more row =
    or_later (first_wrong (shared_tests first row))
    (wrong_format (all_rows entries ++ first ∷ more) (first ∷ more) (formats_in first) row)

-- ---- records that a profile may have

-- each row is as it has to be behind those before it
abbrev pub AreMore : List Entry → Row → List Row → List Row → Type 0
AreMore entries first before [] = Unit {0}
AreMore entries first before (row ∷ rows) =
    (length row ≡ 18) × (wrong_more entries first before row ≡ None) × AreMore entries first (before ++ row ∷ []) rows

-- a record behind these
pub record IsEntry (hash : HashKind) (entries : List Entry) (entry : Entry) : Type 0 where
  pub count : length entry.first ≡ 18
  pub first : wrong_first hash entries entry.first ≡ None
  pub more : AreMore entries entry.first [] entry.more
  pub all : length (rows_of entry) ≡ rows_in entry.first

-- each record is right behind those before it
abbrev pub AreEntriesFrom : HashKind → List Entry → List Entry → Type 0
AreEntriesFrom hash before [] = Unit {0}
AreEntriesFrom hash before (entry ∷ entries) =
    IsEntry hash before entry × AreEntriesFrom hash (before ++ entry ∷ []) entries

-- each record is right, from the first on
abbrev pub AreEntries : HashKind → List Entry → Type 0
AreEntries hash entries = AreEntriesFrom hash [] entries

-- ---- texts

-- the lines of a record
abbrev pub entry_text : Entry → List ℕ
entry_text entry = flat_map line (rows_of entry)

-- the lines of all records
abbrev pub entries_text : List Entry → List ℕ
entries_text entries = flat_map entry_text entries
