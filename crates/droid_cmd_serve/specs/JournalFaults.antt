-- Why a journal ends the program (this project's own).
use Rattle.std.specs.Prelude.{Bool, false, true, Option, None, Some}
use Rattle.droid_cmd_serve.specs.declared.journal_fault.JournalFault.{JournalFault}
use Rattle.droid_cmd_serve.specs.declared.journal_fault.JournalFault.TheVariants.{InUse, NotAFile, Unopened, Closed}
use Rattle.droid_cmd_serve.specs.declared.journal_fault.JournalFault.TheVariants.{NotSmaller, NotExchanged}
use Rattle.droid_compaction.specs.declared.rewrite_fault.RewriteFault.{RewriteFault}
use Rattle.droid_compaction.specs.declared.rewrite_fault.RewriteFault.TheVariants as rewriting
use Rattle.droid_journal.specs.declared.disk.disk_fault.DiskFault.{DiskFault}
use Rattle.droid_journal.specs.declared.disk.disk_fault.DiskFault.TheVariants as disks
use Rattle.droid_journal.specs.declared.journal_fault.Fault.TheVariants as faults

-- its file could not be opened
abbrev pub of_disk : DiskFault → JournalFault
of_disk disks.InUse = InUse
of_disk disks.NotAFile = NotAFile
of_disk (disks.Unopened kind) = Unopened kind

-- it could not be made smaller
abbrev pub of_rewriting : RewriteFault → JournalFault
of_rewriting rewriting.Memory = Closed faults.Memory
of_rewriting rewriting.Read = Closed faults.Read
of_rewriting rewriting.Write = NotSmaller None
of_rewriting rewriting.Header = Closed faults.Header
of_rewriting (rewriting.Behind records) = Closed (faults.Damage records)
of_rewriting rewriting.Exchange = NotExchanged

-- Making it smaller ends so where its header is another one, and where bytes stand behind its records. Opening it
-- reports which, or cuts off a torn end.
abbrev pub needs_opening : JournalFault → Bool
needs_opening (Closed faults.Header) = true
needs_opening (Closed (faults.Damage records)) = true
needs_opening _ = false

-- Making an open journal smaller may end so: it names no other process and no other kind of file, no record, and the
-- journal itself was not written.
abbrev pub ComesOfShortening : JournalFault → Type 0
ComesOfShortening InUse = ⊥
ComesOfShortening NotAFile = ⊥
ComesOfShortening (Closed faults.Write) = ⊥
ComesOfShortening (Closed (faults.Record number)) = ⊥
ComesOfShortening _ = Unit {0}
