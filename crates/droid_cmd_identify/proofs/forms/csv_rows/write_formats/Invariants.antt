use Rattle.std.proofs.Common.{◌++◌, ℕ, List, take, flat_map}
use Rattle.droid_export.specs.Csv.{line}
use Rattle.droid_export.specs.CsvBuffer.{Holds}
use Rattle.droid_cmd_identify.specs.CsvRows.{row_of_format}
use Rattle.droid_cmd_identify.proofs.forms.csv_rows.write_formats.Given as goal

abbrev pub invariant-loop-its : goal.invariant-loop-its
invariant-loop-its l =
    (text : List ℕ) → Holds l.fn.writer text → Holds l.writer (text ++ flat_map (λ form. line (row_of_format l.file form)) (take l.its-index l.file.formats.now))
