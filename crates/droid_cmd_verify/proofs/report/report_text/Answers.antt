use Rattle.std.proofs.Common.{◌++◌, ℕ, List, [], take, sym, subst, append-nil}
use Rattle.droid_export.specs.Csv.{line}
use Rattle.droid_export.specs.CsvBuffer.{Holds}
use Rattle.droid_terminal.proofs.SkippedTexts.{texts_more}
use Rattle.droid_cmd_verify.specs.ReportTexts.{column_names, findings_text, record_of}
use Rattle.droid_cmd_verify.proofs.report.report_text.Goals as goal

pub loop-finding-init : goal.loop-finding-init
loop-finding-init c =
    subst (λ (t : List ℕ). Holds c.write_names.new.writer t) (sym (append-nil (line column_names))) (c.in_ok-write_names.ensures [] c.new_csv-writer.ensures)

pub loop-finding-preserved : goal.loop-finding-preserved
loop-finding-preserved c =
    subst (λ (t : List ℕ). Holds c.write_finding.new.writer t)
    (texts_more (λ finding. line (record_of c.as_slice-listed.result.now c.as_slice-found.result.now finding)) c.args.findings.now c.loop-finding.finding-index c.finding-item.result (line column_names) c.loop-finding-test.true c.finding-item.is)
    (c.in_ok-write_finding.ensures (line column_names ++ findings_text c.as_slice-listed.result.now c.as_slice-found.result.now (take c.loop-finding.finding-index c.args.findings.now)) c.loop-finding.invariant)
