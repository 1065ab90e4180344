use Rattle.std.proofs.Common.{◌≡◌, inl, inr, false, [], Err, ap}
use Rattle.std.specs.Prelude.{IfOk, IfSome}
use Rattle.std.proofs.lemmas.Result.{IfOk-weaker}
use Rattle.droid_core_spec.specs.Histories.{History}
use Rattle.droid_recovery.specs.BareWorlds.{Bare}
use Rattle.droid_journal.specs.Records.{Record}
use Rattle.droid_journal.specs.declared.journal_fault.Fault.TheVariants as faults
use Rattle.droid_recovery.specs.Standing.{Recovery}
use Rattle.droid_recovery.specs.BareRecords.{LeadTo}
use Rattle.droid_wire.specs.Histories.{HasBare}
use Rattle.droid_wire.specs.Standing.{ReadsRecords, StandsForHistory}
use Rattle.droid_wire.proofs.HistoryLaws.{as_behind_nothing, as_history, bare_front, none_small, some_history}
use Rattle.droid_wire.proofs.Results.{both_there, each_there, none_there, only_memory, some_there, some_weaker}
use Rattle.droid_wire.proofs.SmallHistories.{found_small}
use Rattle.droid_wire.proofs.service_journal.ServiceJournal.open_small.Goals as goal

pub returns-in-Ok-clause-opened : goal.returns-in-Ok-clause-opened
returns-in-Ok-clause-opened g c = λ setting s limits of here.
    let found = c.in-Ok.ensures.opened s here in
    let recovery : Bare → Recovery = λ bare. record { setting = setting; bare = bare } in
    let stands : (bare : Bare) → ReadsRecords (recovery bare) c.in_ok-reader.reader [] = λ bare. c.in_ok-reader.ensures.empty (recovery bare) limits of in
    let none : Bare = λ profile file. false in
    let some = c.revived.ensures.small (recovery none) c.args.header.now found.0 (found.2 (recovery none) (stands none)).0 in
    let each : (bare : Bare) (x : (history : History) × LeadTo setting bare found.0 history) → IfOk c.revived.result (λ o. IfSome o (λ it. StandsForHistory g.F.LogFile.has g.F.LogFile.kept setting c.args.header.now it.journal x.0 x.0)) =
    λ bare x. c.revived.ensures.stands setting bare c.args.header.now found.0 x.0 (found.2 (recovery bare) (stands bare)).0 x.1 in
    IfOk-weaker c.revived.result _ _ (λ o. some_weaker _ _ o (λ it all. (found.0, all.0, all.1, λ bare history small. all.2 bare (history, small))))
    (both_there c.revived.result _ (HasBare found.0) _ found.1 some (each_there Bare (λ bare. (history : History) × LeadTo setting bare found.0 history) c.revived.result (λ bare x it. StandsForHistory g.F.LogFile.has g.F.LogFile.kept setting c.args.header.now it.journal x.0 x.0) each))

pub returns-in-Ok-clause-whole : goal.returns-in-Ok-clause-whole
returns-in-Ok-clause-whole g c = λ setting s limits of here.
    let found = c.in-Ok.ensures.opened s here in
    let recovery : Recovery = record { setting = setting; bare = λ profile file. false } in
    IfOk-weaker c.revived.result _ _ (λ o none is. (found.0, found.1, none is)) (c.revived.ensures.whole recovery c.args.header.now found.0 (found.2 recovery (c.in_ok-reader.ensures.empty recovery limits of)).0)

pub returns-in-Ok-clause-reopened : goal.returns-in-Ok-clause-reopened
returns-in-Ok-clause-reopened g c = λ setting s synced all limits of here left.
    let recovery : Bare → Recovery = λ bare. record { setting = setting; bare = bare } in
    let stands : (bare : Bare) → ReadsRecords (recovery bare) c.in_ok-reader.reader [] = λ bare. c.in_ok-reader.ensures.empty (recovery bare) limits of in
    elim left.base.came [
      | inl nothing ↦ (
          let none : Bare = λ profile file. false in
          let opened = c.in-Ok.ensures.reopened (recovery none) s left.first left.written here (stands none) left.fit left.front left.chance in
          let found = some_history setting left.base left.first opened.0 left.written synced all opened.2 opened.3 left.on_disk left.accepted in
          let isnt : HasBare opened.0 → ⊥ = none_small setting opened.0 found.0 (as_history setting opened.0 found.0 (as_behind_nothing setting left.base opened.0 found.0 nothing.0 nothing.1 found.1)) in
          IfOk-weaker c.revived.result _ _ (λ o has. none_there _ o (λ is. isnt (has is))) (c.revived.ensures.small (recovery none) c.args.header.now opened.0 opened.1)
          )
      | inr small ↦ (
          let opened = c.in-Ok.ensures.reopened (recovery small.0) s left.first left.written here (stands small.0) left.fit left.front left.chance in
          let found = found_small setting small.0 left.base left.first opened.0 left.written synced all small.1 small.2 opened.2 opened.3 left.on_disk left.accepted in
          IfOk-weaker c.revived.result _ _ (λ o. some_weaker _ _ o (λ it stands. (found.history, stands, found.between)))
          (c.revived.ensures.stands setting small.0 c.args.header.now opened.0 found.history opened.1 found.small)
          )
    ]

pub returns-in-Ok-clause-small : goal.returns-in-Ok-clause-small
returns-in-Ok-clause-small g c = λ setting s synced all limits of here left bare.
    let recovery : Recovery = record { setting = setting; bare = λ profile file. false } in
    let opened = c.in-Ok.ensures.reopened recovery s left.first left.written here (c.in_ok-reader.ensures.empty recovery limits of) left.fit left.front left.chance in
    IfOk-weaker c.revived.result _ _ (λ o none. some_there o (λ is. none is (bare_front left.first opened.0 opened.2 bare))) (c.revived.ensures.whole recovery c.args.header.now opened.0 opened.1)

pub returns-in-Ok-clause-lawful : goal.returns-in-Ok-clause-lawful
returns-in-Ok-clause-lawful g c = λ n setting s synced all here left reported. let is = only_memory c.revived.result (faults.Damage n) c.revived.ensures.fault reported in absurd cc

pub returns-in-Ok-clause-damage : goal.returns-in-Ok-clause-damage
returns-in-Ok-clause-damage g c = λ n reported s here. let is = only_memory c.revived.result (faults.Damage n) c.revived.ensures.fault reported in absurd cc

pub returns-in-Ok-clause-refuted : goal.returns-in-Ok-clause-refuted
returns-in-Ok-clause-refuted g c = λ n reported setting bare s limits of here. let is = only_memory c.revived.result (faults.Record n) c.revived.ensures.fault reported in absurd cc

pub returns-in-Ok-clause-other_header : goal.returns-in-Ok-clause-other_header
returns-in-Ok-clause-other_header g c = λ reported s here. let is = only_memory c.revived.result faults.Header c.revived.ensures.fault reported in absurd cc

pub returns-in-Err-clause-lawful : goal.returns-in-Err-clause-lawful
returns-in-Err-clause-lawful g c = λ n setting s synced all here left reported.
    let same : c.in-Err.fault ≡ faults.Damage n = cc in
    c.in-Err.ensures.lawful s left.first left.written n here left.fit left.front left.turn left.later (ap Err same)

pub returns-in-Err-clause-damage : goal.returns-in-Err-clause-damage
returns-in-Err-clause-damage g c = λ n reported s here.
    let same : c.in-Err.fault ≡ faults.Damage n = cc in
    c.in-Err.ensures.damage n (ap Err same) s here

pub returns-in-Err-clause-refuted : goal.returns-in-Err-clause-refuted
returns-in-Err-clause-refuted g c = λ n reported setting bare s limits of here.
    let stands : ReadsRecords (record { setting = setting; bare = bare }) c.in_ok-reader.reader [] = c.in_ok-reader.ensures.empty (record { setting = setting; bare = bare }) limits of in
    let same : c.in-Err.fault ≡ faults.Record n = cc in
    c.in-Err.ensures.refuted n (ap Err same) (record { setting = setting; bare = bare }) s here stands

pub returns-in-Err-clause-other_header : goal.returns-in-Err-clause-other_header
returns-in-Err-clause-other_header g c = λ reported s here.
    let same : c.in-Err.fault ≡ faults.Header = cc in
    c.in-Err.ensures.other_header (ap Err same) s here
