use Rattle.droid_export.proofs.Consistency.{they_agree}
use Rattle.droid_export.proofs.reading.consistency_law.rows_agree.Goals as goal

pub returns : goal.returns
returns c = they_agree
