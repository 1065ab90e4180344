use Rattle.droid_cmd_identify.proofs.SayLemmas.{file_says}
use Rattle.droid_cmd_identify.proofs.machine.Machine.identify_one.Goals as goal

pub returns : goal.returns
returns g c = c.in_ok-note.ensures _ (file_says g.P.Printer.prints g.P.Printer.reports g.P.Printer.writes _ _ _ _ _ _ _ _ _ c.in_ok-outcome.ensures)
