use Rattle.droid_cmd_identify.proofs.SayLemmas.{identity_says}
use Rattle.droid_cmd_identify.proofs.machine.Machine.identify_input.Goals as goal

pub returns : goal.returns
returns g c = c.in_ok-note.ensures _ (identity_says g.P.Printer.prints g.P.Printer.reports g.P.Printer.writes _ _ _ _ _ _ _ _ _ _ _ c.in_ok-outcome.ensures)
