use Rattle.droid_cmd_identify.specs.Telling.{nothing, reported}
use Rattle.droid_cmd_identify.proofs.machine.Machine.report_entry.Goals as goal

pub returns : goal.returns
returns g c = reported nothing c.in_ok-report.ensures
