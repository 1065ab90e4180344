use Rattle.droid_cmd_identify.proofs.SayLemmas.{unread_says}
use Rattle.droid_cmd_identify.proofs.machine.Machine.note_unread.Goals as goal

pub returns : goal.returns
returns g c = unread_says g.P.Printer.prints g.P.Printer.reports g.P.Printer.writes c.args.self.now.options.form c.args.self.now.first c.args.path.now c.args.why.now c.in_ok-printed.printed _ _ c.in_ok-printed.ensures
