use Rattle.droid_export.proofs.Records.{text_by_records}
use Rattle.droid_export.proofs.laws.text_goes_by_records.Goals as goal

pub returns : goal.returns
returns c = text_by_records
