use Rattle.std.proofs.Common.{refl}
use Rattle.droid_cmd_identify.specs.Telling.{SaysOfEntry}
use Rattle.droid_cmd_identify.proofs.SayLemmas.{goes_all, goes_more}
use Rattle.droid_cmd_identify.proofs.machine.Machine.identify_each_of.Goals as goal

pub loop-entry-init : goal.loop-entry-init
loop-entry-init g c = refl

pub loop-entry-preserved : goal.loop-entry-preserved
loop-entry-preserved g c =
    goes_more (λ old entry new. SaysOfEntry g.P.Printer.prints g.P.Printer.reports g.P.Printer.writes entry.kind old new) c.args.entries.now c.loop-entry.entry-index c.args.self.now.output c.loop-entry.self.output c.loop-entry.invariant c.entry-item.result
    c.identify_entry_of.new.self.output c.in_ok-identify_entry_of.ensures c.loop-entry-test.true c.entry-item.is

pub returns : goal.returns
returns g c =
    goes_all (λ old entry new. SaysOfEntry g.P.Printer.prints g.P.Printer.reports g.P.Printer.writes entry.kind old new) c.args.entries.now c.loop-entry.entry-index c.args.self.now.output c.loop-entry.self.output c.loop-entry.invariant c.loop-entry-test.false
