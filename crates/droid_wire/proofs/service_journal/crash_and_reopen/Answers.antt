use Rattle.std.proofs.Common.{◌∙◌, List, ℕ, [], ◌++◌, ap, append_assoc, inr}
use Rattle.droid_journal.specs.Chains.{journal_bytes}
use Rattle.droid_journal.specs.Fronts.{IsFront}
use Rattle.droid_journal.specs.Records.{Record}
use Rattle.droid_journal.specs.Standing.{AreOnDisk, ahead_bytes}
use Rattle.droid_wire.specs.Histories.{Start, StandsForRecords, no_base}
use Rattle.droid_wire.proofs.HistoryLaws.{no_history, whole_between}
use Rattle.droid_wire.proofs.service_journal.crash_and_reopen.Goals as goal

begins : (header kept tail : List ℕ) (synced : List Record) → AreOnDisk header synced kept → IsFront (journal_bytes header synced) (kept ++ tail)
begins header kept tail synced on_disk =
    let mark : List ℕ = ahead_bytes header synced on_disk.0 in
    (mark ++ tail, ap (λ (t : List ℕ). t ++ tail) on_disk.1 ∙ append_assoc (journal_bytes header synced) mark tail)

pub open-requires-clause-kept : goal.open-requires-clause-kept
open-requires-clause-kept g c = λ s here has. let keeps = c.requires.keeps in inr (keeps.0, keeps.2.fit, (keeps.2.on_disk.0, c.in-Ok.ensures.kept ∙ keeps.2.on_disk.1))

pub returns-in-Ok-open : goal.returns-in-Ok-open
returns-in-Ok-open g c = λ setting written synced all fresh keeps chance.
    let start : Start = record { setting = setting; base = no_base setting } in
    let stands : StandsForRecords setting (no_base setting) c.args.fresh [] = record { history = []; its = no_history setting; stands = fresh } in
    let tail = c.args.tail.now in
    let kept = g.F.LogFile.kept c.args.before.journal.file in
    let front = begins c.args.header.now kept tail keeps.first keeps.keeps.on_disk in
    let found = c.in-Ok-open.ensures.reopened start (kept ++ tail) keeps.first written c.in-Ok.ensures.has stands keeps.keeps.fit front chance in
    let settled = c.begun.ensures.settled setting (no_base setting) c.args.header.now found.0 found.1 in
    let its = settled.machine.its in (
      settled.machine.history,
      record { base = no_base setting; first = found.0; records = found.0; stands = settled; on_disk = its; accepted = its },
      whole_between setting keeps.base keeps.first found.0 written synced settled.machine.history all found.2 found.3 keeps.on_disk its keeps.accepted,
    )
