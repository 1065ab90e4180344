use Rattle.std.proofs.Common.{List, sym, subst, ◌∙◌}
use Rattle.droid_journal.specs.Records.{Record}
use Rattle.droid_wire.specs.Histories.{Start, StandsForRecords}
use Rattle.droid_wire.specs.declared.reading_machine.ReadingMachine.{ReadingMachine}
use Rattle.droid_wire.specs.declared.service_machine.ServiceMachine.{ServiceMachine}
use Rattle.droid_wire.proofs.Exchanged.{ready_with}
use Rattle.droid_wire.proofs.service_journal.ServiceJournal.begun.Goals as goal

pub returns-clause-settled : goal.returns-clause-settled
returns-clause-settled g c = λ setting base header its ready.
    let start : Start = record { setting = setting; base = base } in
    let reads : StandsForRecords setting base c.with-reader.result.0.service its = subst (λ (m : ReadingMachine). StandsForRecords setting base m.service its) (sym c.with-reader.ensures.old) ready.machine in
    let machine : StandsForRecords setting base c.with-nothing.result.1.machine.service its = subst (λ (m : ServiceMachine). StandsForRecords setting base m.service its) (sym c.with-nothing.ensures.new) reads in
    c.new-journal.ensures.settled start header its
    (ready_with g.F.LogFile.has g.F.LogFile.kept (λ (m : ReadingMachine) (rs : List Record). StandsForRecords setting base m.service rs) (λ (m : ServiceMachine) (rs : List Record). StandsForRecords setting base m.service rs) header
    c.args.file c.args.opened c.with-nothing.result.1 its (c.with-nothing.ensures.key ∙ c.with-reader.ensures.key) (c.with-nothing.ensures.place ∙ c.with-reader.ensures.place) (c.with-nothing.ensures.ahead ∙ c.with-reader.ensures.ahead)
    machine ready)
