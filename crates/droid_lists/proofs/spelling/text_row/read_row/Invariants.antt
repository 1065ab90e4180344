use Rattle.std.proofs.Common.{◌≡◌, ◌-◌, []}
use Rattle.csv.specs.Records.{fields_of, partial_of}
use Rattle.droid_lists.specs.RowReading.{fields_from, first_row, with_fields}
use Rattle.droid_lists.proofs.spelling.text_row.read_row.Given as goal

-- the row of the text is that of what is left, behind the fields so far
abbrev pub invariant-loop-column : goal.invariant-loop-column
invariant-loop-column l =
    (partial_of l.row ≡ []) × (first_row l.text ≡ with_fields (fields_of l.row) (fields_from (18 - l.column) l.column l.rest))
