use Rattle.std.proofs.Common.{[]}
use Rattle.std.proofs.lemmas.Result.{IfOk-weaker}
use Rattle.droid_cmd_identify.specs.CsvRows.{csv_rows}
use Rattle.droid_cmd_identify.proofs.forms.csv_rows.csv_rows.Goals as goal

pub returns : goal.returns
returns c = IfOk-weaker c.finish_csv.result _ _ (λ text holds. holds (csv_rows c.args.file) (c.in_ok-write_rows.ensures [] c.new_csv-writer.ensures)) c.finish_csv.ensures
