use Rattle.droid_journal.proofs.Changes.{byte_seen}
use Rattle.droid_journal.proofs.laws.a_changed_byte_is_seen.Goals as goal

pub returns : goal.returns
returns c = λ front its other place form fits changed holds. byte_seen front its other place form fits changed holds
