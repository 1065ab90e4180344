use Rattle.droid_cmd_identify.specs.Telling.{printed}
use Rattle.droid_cmd_identify.proofs.machine.Machine.show_why.Goals as goal

pub returns : goal.returns
returns g c before says = printed says c.in_ok-print.ensures
