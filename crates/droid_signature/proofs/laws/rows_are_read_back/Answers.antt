-- One row after the other.
use Rattle.droid_signature.proofs.RowSteps.{read_back}
use Rattle.droid_signature.proofs.laws.rows_are_read_back.Goals as goal

pub returns : goal.returns
returns c = read_back
