-- The text of an export.
use Rattle.std.specs.Prelude.{ℕ, List, [], ◌∷◌, ◌++◌, filter}
use Rattle.std.specs.List.{flat_map, AllByRecursion}
use Rattle.droid_frame.specs.declared.filter.Filter.{Filter}
use Rattle.droid_frame.specs.declared.hash_kind.HashKind.{HashKind}
use Rattle.droid_frame.specs.declared.record.Record.{Record}
use Rattle.droid_pronom.specs.Registry.{Contents}
use Rattle.droid_export.specs.Csv.{line, quoted}
use Rattle.droid_export.specs.Filters.{meets}
use Rattle.droid_export.specs.Moments.{IsMoment}
use Rattle.droid_export.specs.Rows.{Row, fields, header, rows}
use Rattle.droid_export.specs.Table.{mark_of}
use Rattle.droid_export.specs.declared.column.Column.{Column}

-- what a column of a row says, with the mark behind it
abbrev pub piece : Row → Column → List ℕ
piece row column = quoted (row column) ++ mark_of column ∷ []

-- a row as a record of CSV
abbrev pub row_text : Row → List ℕ
row_text row = line (fields row)

-- the text of the rows of one record
abbrev pub record_text : Contents → Record → List ℕ
record_text registry node = flat_map row_text (rows registry node)

-- the rows of each record that meets the filter
abbrev pub chosen_rows : Contents → Filter → List Record → List Row
chosen_rows registry criteria records = flat_map (rows registry) (filter (meets criteria) records)

-- the rows that an export shows
abbrev pub shown_rows : Contents → Filter → HashKind → List Record → List Row
shown_rows registry criteria hash records = header hash ∷ chosen_rows registry criteria records

-- the text of an export with the hash column of this kind
unfoldable pub text : Contents → Filter → HashKind → List Record → List ℕ
text registry criteria hash records = flat_map row_text (shown_rows registry criteria hash records)

-- each record was modified at a moment that can be written
abbrev pub HaveMoments : List Record → Type 0
HaveMoments = AllByRecursion (λ node. IsMoment node.modified)
