-- Which formats the rows of a profile give its files (docs/CSV.md).
use Rattle.std.specs.Prelude.{◌≡◌, ℕ, Bool, true, false, List, [], ◌∷◌, Option, Some, None, codes}
use Rattle.std.specs.Prelude.{if◌then◌else◌}
use Rattle.std.specs.List.{flat_map}
use Rattle.std.specs.Str.{bytes_eq}
use Rattle.csv.specs.Reading.{AreRecords, default_config, strip_bom}
use Rattle.csv.specs.declared.parser.State.TheVariants as st
use Rattle.droid_export.specs.Headers.{header_of, whole_row}
use Rattle.droid_export.specs.Table.{said}
use Rattle.droid_export.specs.declared.column.Column.TheVariants as columns
use Rattle.droid_export.specs.declared.header.Header.{Header}
use Rattle.droid_export.specs.Profiles.{Stage, Before, Behind}
use Rattle.droid_export.specs.declared.reading.format_row.FormatRow.{FormatRow}

-- whether a row is that of a file: TYPE says so
abbrev pub is_file : List (List ℕ) → Bool
is_file row = bytes_eq (said row columns.Kind) (codes "File")

-- The row of a file has its FILE_PATH and a PUID, which is empty if the file has no format.
abbrev pub rows_of : List (List ℕ) → List FormatRow
rows_of row =
    if is_file row then (record { path = said row columns.FilePath; puid = said row columns.Puid }) ∷ [] else []

-- the rows of files behind a header
abbrev pub rows_behind : Header → List (List (List ℕ)) → List FormatRow
rows_behind header rows = flat_map (λ row. rows_of (whole_row header row)) rows

-- the rows of files behind a header, if there is one
abbrev pub file_rows : Option Header → List (List (List ℕ)) → List FormatRow
file_rows None rows = []
file_rows (Some header) rows = rows_behind header rows

-- the rows of files among records, of which the first is the header
abbrev pub format_rows : List (List (List ℕ)) → List FormatRow
format_rows [] = []
format_rows (names ∷ rows) = file_rows (header_of names) rows

-- a text has these rows: they are those of the records that `csv` reads
abbrev pub HasRows : List ℕ → List FormatRow → Type 0
HasRows text rows =
    (records : List (List (List ℕ))) → AreRecords default_config st.StartRecord (strip_bom text) records
    → rows ≡ format_rows records

-- rows that are kept, or not
abbrev pub rows_if : Bool → List FormatRow → List FormatRow
rows_if true rows = rows
rows_if false rows = []

-- ---- for proofs: record by record

-- what a record adds: the header nothing
abbrev pub rows_added : Bool → Stage → List (List ℕ) → List FormatRow
rows_added kept (Before formats) fields = []
rows_added kept (Behind header) fields = rows_if kept (rows_of (whole_row header fields))

-- what the records that are left come to
abbrev pub rows_left : Bool → Stage → List (List (List ℕ)) → List FormatRow
rows_left kept (Before formats) records = rows_if kept (format_rows records)
rows_left kept (Behind header) records = rows_if kept (rows_behind header records)
