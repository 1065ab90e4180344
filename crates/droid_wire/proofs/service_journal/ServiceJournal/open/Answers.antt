use Rattle.std.proofs.Common.{[], Err, ap}
use Rattle.droid_wire.specs.Histories.{Start, StandsForRecords, no_base}
use Rattle.droid_wire.proofs.HistoryLaws.{as_history, no_history, whole_between}
use Rattle.droid_wire.proofs.service_journal.ServiceJournal.open.Goals as goal

pub returns-in-Ok-clause-opened : goal.returns-in-Ok-clause-opened
returns-in-Ok-clause-opened g c = λ setting s fresh here.
    let start : Start = record { setting = setting; base = no_base setting } in
    let stands : StandsForRecords setting (no_base setting) c.args.fresh [] = record { history = []; its = no_history setting; stands = fresh } in
    let found = c.in-Ok.ensures.opened s here in
    let settled = c.begun.ensures.settled setting (no_base setting) c.args.header.now found.0 (found.2 start stands).0 in
    let its = settled.machine.its in (
      found.0,
      settled.machine.history,
      found.1,
      as_history setting found.0 settled.machine.history its,
      record { base = no_base setting; first = found.0; records = found.0; stands = settled; on_disk = its; accepted = its },
    )

pub returns-in-Ok-clause-reopened : goal.returns-in-Ok-clause-reopened
returns-in-Ok-clause-reopened g c = λ setting s synced all fresh here left.
    let start : Start = record { setting = setting; base = no_base setting } in
    let stands : StandsForRecords setting (no_base setting) c.args.fresh [] = record { history = []; its = no_history setting; stands = fresh } in
    let opened = c.in-Ok.ensures.reopened start s left.first left.written here stands left.fit left.front left.chance in
    let settled = c.begun.ensures.settled setting (no_base setting) c.args.header.now opened.0 opened.1 in
    let its = settled.machine.its in (
      settled.machine.history,
      record { base = no_base setting; first = opened.0; records = opened.0; stands = settled; on_disk = its; accepted = its },
      whole_between setting left.base left.first opened.0 left.written synced settled.machine.history all opened.2 opened.3 left.on_disk its left.accepted,
    )

pub returns-in-Err-clause-unchanged : goal.returns-in-Err-clause-unchanged
returns-in-Err-clause-unchanged g c = λ other. c.in-Err.ensures.unchanged other

pub returns-in-Err-clause-kept : goal.returns-in-Err-clause-kept
returns-in-Err-clause-kept g c = c.in-Err.ensures.kept

pub returns-in-Err-clause-lawful : goal.returns-in-Err-clause-lawful
returns-in-Err-clause-lawful g c = λ n setting s synced all here left reported.
    c.in-Err.ensures.lawful s left.first left.written n here left.fit left.front left.turn left.later (ap Err reported)

pub returns-in-Err-clause-damage : goal.returns-in-Err-clause-damage
returns-in-Err-clause-damage g c = λ n s here reported. c.in-Err.ensures.damage n (ap Err reported) s here

pub returns-in-Err-clause-refuted : goal.returns-in-Err-clause-refuted
returns-in-Err-clause-refuted g c = λ n setting s fresh here reported.
    let start : Start = record { setting = setting; base = no_base setting } in
    let stands : StandsForRecords setting (no_base setting) c.args.fresh [] = record { history = []; its = no_history setting; stands = fresh } in
    c.in-Err.ensures.refuted n (ap Err reported) start s here stands

pub returns-in-Err-clause-other_header : goal.returns-in-Err-clause-other_header
returns-in-Err-clause-other_header g c = λ s here reported. c.in-Err.ensures.other_header (ap Err reported) s here
