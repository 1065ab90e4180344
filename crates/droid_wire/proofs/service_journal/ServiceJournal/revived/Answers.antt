use Rattle.std.proofs.Common.{rules, ◌≡◌, true, false, List, sym, subst, ◌∙◌, inr}
use Rattle.droid_core_spec.specs.Histories.{world_of}
use Rattle.droid_recovery.proofs.EndedFiles.{have_ended}
use Rattle.droid_journal.specs.Records.{Record}
use Rattle.droid_recovery.specs.Standing.{Recovery}
use Rattle.droid_wire.specs.Histories.{Base, Start, StandsForRecords}
use Rattle.droid_wire.specs.Standing.{ReadsRecords}
use Rattle.droid_wire.specs.declared.service_machine.ServiceMachine.{ServiceMachine}
use Rattle.droid_wire.specs.declared.small_reader.SmallReader.{SmallReader}
use Rattle.droid_wire.proofs.Exchanged.{ready_with}
use Rattle.droid_wire.proofs.HistoryLaws.{no_more}
use Rattle.droid_wire.proofs.service_journal.ServiceJournal.revived.Goals as goal

pub returns-clause-small : goal.returns-clause-small
returns-clause-small g c = λ recovery header its ready some.
    let reads = subst (λ (r : SmallReader). ReadsRecords recovery r its) (sym c.with-reader.ensures.old) ready.machine in
    let is : c.with-reader.result.0.is_small ≡ true = search rules in
    reads.noted is

pub returns-then-not-is_small-clause-whole : goal.returns-then-not-is_small-clause-whole
returns-then-not-is_small-clause-whole g c = λ recovery header its ready none.
    let reads = subst (λ (r : SmallReader). ReadsRecords recovery r its) (sym c.with-reader.ensures.old) ready.machine in
    let isnt : c.with-reader.result.0.is_small ≡ false = search rules in
    reads.none isnt

pub returns-clause-stands : goal.returns-clause-stands
returns-clause-stands g c = λ setting bare header its history ready small.
    let recovery : Recovery = record { setting = setting; bare = bare } in
    let reads = subst (λ (r : SmallReader). ReadsRecords recovery r its) (sym c.with-reader.ensures.old) ready.machine in
    let is : c.with-reader.result.0.is_small ≡ true = search rules in
    let base : Base setting = record { first = its; history = history; came = inr (bare, small, reads.noted is) } in
    let start : Start = record { setting = setting; base = base } in
    let stands = c.in-Ok.ensures.stands recovery its history reads.recovers small.have (have_ended bare (world_of setting history) small.ended) in
    let machine : StandsForRecords setting base c.in-Ok.service its = record { history = history; its = no_more setting base; stands = stands } in
    let machine_is : StandsForRecords setting base c.with-nothing.result.1.machine.service its = subst (λ (m : ServiceMachine). StandsForRecords setting base m.service its) (sym c.with-nothing.ensures.new) machine in
    let settled = c.new-journal.ensures.settled start header its
    (ready_with g.F.LogFile.has g.F.LogFile.kept (ReadsRecords recovery) (λ (m : ServiceMachine) (rs : List Record). StandsForRecords setting base m.service rs) header c.args.file c.args.opened c.with-nothing.result.1 its
    (c.with-nothing.ensures.key ∙ c.with-reader.ensures.key) (c.with-nothing.ensures.place ∙ c.with-reader.ensures.place) (c.with-nothing.ensures.ahead ∙ c.with-reader.ensures.ahead) machine_is ready) in
    record { base = base; first = its; records = its; stands = settled; on_disk = no_more setting base; accepted = no_more setting base }
