-- The rows of a file.
use Rattle.std.proofs.Common.{◌≡◌, ◌==◌, ◌∷◌, [], List, true, false, length, flat_map, refl, arith}
use Rattle.std.proofs.lemmas.Bool.{eqb-true}
use Rattle.droid_export.specs.Csv.{line}
use Rattle.droid_cmd_identify.specs.CsvRows.{row_of_format, row_of_none, rows_of}
use Rattle.droid_cmd_identify.specs.declared.forms.shown_file.ShownFile.{ShownFile}
use Rattle.droid_cmd_identify.specs.declared.forms.shown_format.ShownFormat.{ShownFormat}

pub rows_none : (file : ShownFile) (formats : List ShownFormat) → (length formats == 0) ≡ true → line (row_of_none file) ≡ rows_of file formats
rows_none file [] none = refl
rows_none file (its ∷ more) none = let bad = eqb-true (length (its ∷ more)) 0 none in absurd (omega (arith, bad))

pub rows_some : (file : ShownFile) (formats : List ShownFormat) → (length formats == 0) ≡ false → flat_map (λ form. line (row_of_format file form)) formats ≡ rows_of file formats
rows_some file [] some = cc
rows_some file (its ∷ more) some = refl
