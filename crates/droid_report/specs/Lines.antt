-- Rows without where they lie in memory.
use Rattle.std.specs.Prelude.{List, map}
use Rattle.csv.specs.Records.{fields_of}
use Rattle.droid_report.specs.Rows.{Line}
use Rattle.droid_report.specs.declared.row.Row.{Row}

-- a row, as it was read
abbrev pub line_of : Row → Line
line_of row = record { fields = fields_of row.fields; facts = row.facts; is_first = row.is_first }

-- rows, as they were read
abbrev pub lines_in : List Row → List Line
lines_in rows = map line_of rows
