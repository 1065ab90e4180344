use Rattle.std.proofs.Common.{take}
use Rattle.droid_tree.specs.Observation.{GoesOver}
use Rattle.droid_cmd_identify.specs.Telling.{SaysOfEntry}
use Rattle.droid_cmd_identify.proofs.machine.Machine.identify_each_of.Given as goal

abbrev pub invariant-loop-entry : goal.invariant-loop-entry
invariant-loop-entry g l =
    GoesOver (λ old entry new. SaysOfEntry g.P.Printer.prints g.P.Printer.reports g.P.Printer.writes entry.kind old new) l.fn.self.output (take l.entry-index l.entries) l.self.output
