use Rattle.droid_terminal.proofs.Statuses.{whole_alone}
use Rattle.droid_terminal.proofs.laws.only_all_done_has_status_0.Goals as goal

pub returns : goal.returns
returns c = whole_alone
