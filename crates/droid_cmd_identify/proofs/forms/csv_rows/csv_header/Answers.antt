use Rattle.std.proofs.Common.{[]}
use Rattle.std.proofs.lemmas.Result.{IfOk-weaker}
use Rattle.droid_cmd_identify.specs.CsvRows.{header}
use Rattle.droid_cmd_identify.proofs.forms.csv_rows.csv_header.Goals as goal

pub returns : goal.returns
returns c = IfOk-weaker c.finish_csv.result _ _ (λ text holds. holds header (c.in_ok-write_record.ensures [] c.new_csv-writer.ensures)) c.finish_csv.ensures
