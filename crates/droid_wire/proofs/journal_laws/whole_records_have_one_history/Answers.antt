use Rattle.droid_wire.proofs.OneHistory.{one_whole}
use Rattle.droid_wire.proofs.journal_laws.whole_records_have_one_history.Goals as goal

pub returns : goal.returns
returns c = λ setting bare records history other its small. one_whole setting bare records history other its small.have
