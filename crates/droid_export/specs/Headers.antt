-- The header of a profile's CSV: the names of all columns, or of some, in their order.
use Rattle.std.specs.Prelude.{ℕ, ◌==◌, ◌&&◌, ◌||◌, not, Bool, true, false, List, [], length, map, take, count_by}
use Rattle.std.specs.Prelude.{get_or, Option, Some, None, if◌then◌else◌}
use Rattle.std.specs.List.{find, list_all, list_any}
use Rattle.std.specs.Option.{option_or}
use Rattle.std.specs.Str.{bytes_eq}
use Rattle.droid_frame.specs.declared.hash_kind.HashKind.{HashKind}
use Rattle.droid_frame.specs.declared.hash_kind.HashKind.TheVariants as hashes
use Rattle.droid_export.specs.Table.{columns, field_or, name_of, place_of}
use Rattle.droid_export.specs.declared.column.Column.{Column}
use Rattle.droid_export.specs.declared.header.Header.{Header}

-- a column has its name
abbrev pub is_named : HashKind → List (List ℕ) → Column → Bool
is_named hash names column = bytes_eq (field_or names (place_of column)) (name_of hash column)

-- each column has its name
abbrev pub are_named : HashKind → List (List ℕ) → Bool
are_named hash names = list_all (is_named hash names) columns

-- a record has the names of the columns of a CSV with these hashes
abbrev pub has_names : HashKind → List (List ℕ) → Bool
has_names hash names = (length names == length columns) && are_named hash names

-- the kind of hash that a header says
abbrev pub hash_of_header : List (List ℕ) → Option HashKind
hash_of_header names =
    if has_names hashes.Nothing names then Some hashes.Nothing
    else if has_names hashes.Md5 names then Some hashes.Md5
    else if has_names hashes.Sha256 names then Some hashes.Sha256 else None

-- ---- some of the columns

-- a name is that of a column
abbrev pub has_name : HashKind → List (List ℕ) → Column → Bool
has_name hash names column = list_any (λ name. bytes_eq name (name_of hash column)) names

-- a CSV with this header has the column
abbrev pub has_column : Header → Column → Bool
has_column header column = get_or header.has (place_of column) false

-- how many columns there are
abbrev pub count_in : List Bool → ℕ
count_in has = count_by (λ there. there) has

-- how many of them stand before a column
abbrev pub place_in : Header → Column → ℕ
place_in header column = count_in (take (place_of column) header.has)

-- the field of a column in a record, or nothing if the CSV lacks it
abbrev pub cell : Header → List (List ℕ) → Column → List ℕ
cell header row column = if has_column header column then field_or row (place_in header column) else []

-- a column's name is at its place, or the CSV lacks the column
abbrev pub is_in_place : Header → List (List ℕ) → Column → Bool
is_in_place header names column =
    not (has_column header column) || bytes_eq (cell header names column) (name_of header.hash column)

-- that of each column
abbrev pub are_in_place : Header → List (List ℕ) → Bool
are_in_place header names = list_all (is_in_place header names) columns

-- a record has the names of the columns that are there, in their order
abbrev pub are_names_of : Header → List (List ℕ) → Bool
are_names_of header names = (length names == count_in header.has) && are_in_place header names

-- the header whose columns have their names among these
abbrev pub named_by : HashKind → List (List ℕ) → Header
named_by hash names = record { hash = hash; has = map (has_name hash names) columns }

-- the header of some columns with these names, in a CSV with these hashes; none if another name is there, or the order
-- is another
abbrev pub part_with : HashKind → List (List ℕ) → Option Header
part_with hash names = if are_names_of (named_by hash names) names then Some (named_by hash names) else None

-- the header with these names; one that has no column of hashes is of a CSV without hashes
abbrev pub part_of : List (List ℕ) → Option Header
part_of names =
    option_or (option_or (part_with hashes.Nothing names) (part_with hashes.Md5 names)) (part_with hashes.Sha256 names)

-- the header with all columns
abbrev pub whole : HashKind → Header
whole hash = record { hash = hash; has = map (λ column. true) columns }

-- the header with all columns, if its names say a kind of hash, otherwise that of some
abbrev pub header_by : List (List ℕ) → Option HashKind → Option Header
header_by names (Some hash) = Some (whole hash)
header_by names None = part_of names

-- the header with these names: those of all columns, or of some in their order
abbrev pub header_of : List (List ℕ) → Option Header
header_of names = header_by names (hash_of_header names)

-- the first of these columns that a CSV lacks
abbrev pub missing : List Column → Header → Option Column
missing needed header = find (λ column. not (has_column header column)) needed

-- a CSV with this header has all columns
abbrev pub is_whole : Header → Bool
is_whole header = list_all (λ there. there) header.has

-- a row with a field for each column, of which those that the CSV lacks are empty; a row that has not as many fields as
-- the CSV has columns is none
abbrev pub widened : Header → List (List ℕ) → List (List ℕ)
widened header row = if length row == count_in header.has then map (cell header row) columns else []

-- a row of a CSV with this header as one with all columns; where the CSV has all, it stays as it is
abbrev pub whole_row : Header → List (List ℕ) → List (List ℕ)
whole_row header row = if is_whole header then row else widened header row
