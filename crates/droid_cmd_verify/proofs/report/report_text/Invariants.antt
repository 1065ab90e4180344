use Rattle.std.proofs.Common.{◌++◌, take}
use Rattle.droid_export.specs.Csv.{line}
use Rattle.droid_export.specs.CsvBuffer.{Holds}
use Rattle.droid_cmd_verify.specs.ReportTexts.{column_names, findings_text}
use Rattle.droid_cmd_verify.proofs.report.report_text.Given as goal

abbrev pub invariant-loop-finding : goal.invariant-loop-finding
invariant-loop-finding l = Holds l.writer (line column_names ++ findings_text l.listed l.found (take l.finding-index l.findings))
