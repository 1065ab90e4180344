use Rattle.std.proofs.Common.{◌++◌, ℕ, List, OnOk, sym, subst, ◌∙◌}
use Rattle.droid_export.specs.CsvBuffer.{Holds}
use Rattle.droid_cmd_identify.proofs.CsvLemmas.{rows_none, rows_some}
use Rattle.droid_cmd_identify.proofs.forms.csv_rows.write_rows.Goals as goal

pub returns-then-is_empty : goal.returns-then-is_empty
returns-then-is_empty c =
    subst (λ (rows : List ℕ). OnOk c.write_none.result ((text : List ℕ) → Holds c.args.writer.now text → Holds c.write_none.new.writer (text ++ rows)))
    (rows_none c.args.file c.args.file.formats.now (sym c.is_empty.ensures ∙ c.if-is_empty.true)) c.write_none.ensures

pub returns : goal.returns
returns c =
    subst (λ (rows : List ℕ). OnOk c.write_formats.result ((text : List ℕ) → Holds c.args.writer.now text → Holds c.write_formats.new.writer (text ++ rows)))
    (rows_some c.args.file c.args.file.formats.now (sym c.is_empty.ensures ∙ c.if-is_empty.false)) c.write_formats.ensures
