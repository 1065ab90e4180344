use Rattle.std.proofs.Common.{◌++◌, ℕ, List, take, flat_map, sym, subst, append-nil, arith}
use Rattle.std.proofs.lemmas.List.{take_all}
use Rattle.droid_export.specs.Csv.{line}
use Rattle.droid_export.specs.CsvBuffer.{Holds}
use Rattle.droid_terminal.proofs.SkippedTexts.{texts_more}
use Rattle.droid_cmd_identify.specs.CsvRows.{row_of_format}
use Rattle.droid_cmd_identify.specs.declared.forms.shown_format.ShownFormat.{ShownFormat}
use Rattle.droid_cmd_identify.proofs.forms.csv_rows.write_formats.Goals as goal

pub loop-its-init : goal.loop-its-init
loop-its-init c = λ text holds. subst (λ (t : List ℕ). Holds c.args.writer.now t) (sym (append-nil text)) holds

pub loop-its-preserved : goal.loop-its-preserved
loop-its-preserved c = λ text holds.
    subst (λ (t : List ℕ). Holds c.write_format.new.writer t)
    (texts_more (λ form. line (row_of_format c.args.file form)) c.args.file.formats.now c.loop-its.its-index c.its-item.result text c.loop-its-test.true c.its-item.is)
    (c.in_ok-write_format.ensures (text ++ flat_map (λ form. line (row_of_format c.args.file form)) (take c.loop-its.its-index c.args.file.formats.now)) (c.loop-its.invariant text holds))

pub returns : goal.returns
returns c = λ text holds.
    subst (λ (formats : List ShownFormat). Holds c.loop-its.writer (text ++ flat_map (λ form. line (row_of_format c.args.file form)) formats))
    (take_all c.loop-its.its-index c.args.file.formats.now (omega (arith, c.loop-its-test.false))) (c.loop-its.invariant text holds)
