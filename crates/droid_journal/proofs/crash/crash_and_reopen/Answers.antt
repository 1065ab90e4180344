use Rattle.std.proofs.Common.{◌≡◌, ◌∙◌, List, ℕ, ◌++◌, Err, ap, append_assoc, subst, inr}
use Rattle.droid_journal.specs.Chains.{journal_bytes}
use Rattle.droid_journal.specs.Fronts.{IsFront}
use Rattle.droid_journal.specs.Records.{Record}
use Rattle.droid_journal.specs.Standing.{AreOnDisk, ahead_bytes}
use Rattle.droid_journal.specs.declared.journal_fault.Fault.TheVariants as faults
use Rattle.droid_journal.proofs.crash.crash_and_reopen.Goals as goal

begins : (header kept tail : List ℕ) (synced : List Record) → AreOnDisk header synced kept → IsFront (journal_bytes header synced) (kept ++ tail)
begins header kept tail synced on_disk =
    let mark : List ℕ = ahead_bytes header synced on_disk.0 in
    (mark ++ tail, ap (λ (t : List ℕ). t ++ tail) on_disk.1 ∙ append_assoc (journal_bytes header synced) mark tail)

pub open-requires-clause-kept : goal.open-requires-clause-kept
open-requires-clause-kept g c = λ s here has. let keeps = c.requires.keeps in inr (keeps.0, keeps.2.fit, (keeps.2.on_disk.0, c.in-Ok.ensures.kept ∙ keeps.2.on_disk.1))

pub returns-clause-reopened : goal.returns-clause-reopened
returns-clause-reopened g c = λ setting synced written fresh keeps chance.
    let tail = c.args.tail.now in
    let kept = g.F.LogFile.kept c.args.journal.file in
    let o = c.in-Ok-open.ensures.reopened setting (kept ++ tail) synced written c.in-Ok.ensures.has fresh keeps.fit (begins c.args.header.now kept tail synced keeps.on_disk) chance in
    (o.0, c.new.ensures.settled setting c.args.header.now o.0 o.1, o.2, o.3)

pub returns-in-Err-clause-lawful : goal.returns-in-Err-clause-lawful
returns-in-Err-clause-lawful g c = λ synced written n keeps none reported.
    let tail = c.args.tail.now in
    let kept = g.F.LogFile.kept c.args.journal.file in
    let same : c.in-Err.fault ≡ faults.Damage n = cc in
    c.in-Err.ensures.lawful (kept ++ tail) synced written n c.in-Ok.ensures.has keeps.fit (begins c.args.header.now kept tail synced keeps.on_disk) keeps.turn none (ap Err same)
