-- The ending by the table of faults where a journal ends the program (this project's own).
use Rattle.std.specs.Prelude.{ℕ, ◌+◌, List, [], Option, Some, None, codes, decimal}
use Rattle.std.specs.declared.io.ErrorKind.{ErrorKind}
use Rattle.droid_journal.specs.declared.journal_fault.Fault.{Fault}
use Rattle.droid_journal.specs.declared.journal_fault.Fault.TheVariants as closing
use Rattle.droid_terminal.specs.Endings.{Told, by, detailed, numbered, of_beside, of_path, told_at}
use Rattle.droid_terminal.specs.FaultTable as table
use Rattle.droid_terminal.specs.Paths.{shown_text}
use Rattle.droid_terminal.specs.Units.{saturated}
use Rattle.droid_cmd_serve.specs.declared.command_end.Used.{Used}
use Rattle.droid_cmd_serve.specs.declared.command_end.Used.TheVariants as uses
use Rattle.droid_cmd_serve.specs.declared.journal_fault.JournalFault.{JournalFault}
use Rattle.droid_cmd_serve.specs.declared.journal_fault.JournalFault.TheVariants as journals

-- the path of the journal that a command used
abbrev pub journal_of : Used → List ℕ
journal_of (uses.Journal path) = path.now
journal_of other = codes "the journal"

-- It could not be opened, or handles no further request. The header is record 0.
abbrev pub told_closed : Fault → List ℕ → Told
told_closed closing.Memory path = by table.journal_memory (of_path path)
told_closed closing.Read path = by table.journal_unread (of_path path)
told_closed closing.Write path = by table.journal_unwritten (of_path path)
told_closed closing.Header path = told_at table.journal_other (of_path path) 0 (Some [])
told_closed (closing.Record number) path = numbered table.journal_reply (of_path path) number
told_closed (closing.Damage records) path =
    told_at table.journal_damaged (of_path path) (saturated (records + 1)) (Some (decimal records))

-- the smaller journal beside it could not be made, or without a cause not be written
abbrev pub told_not_smaller : Option ErrorKind → List ℕ → Told
told_not_smaller (Some kind) path = detailed table.journal_not_smaller (of_beside path (codes ".new")) None
told_not_smaller None path =
    detailed table.smaller_unwritten (of_beside path (codes ".new")) (Some (shown_text path))

-- how the command ends where a journal ends it
abbrev pub told_journal : JournalFault → List ℕ → Told
told_journal journals.InUse path = by table.journal_in_use (of_path path)
told_journal journals.NotAFile path = by table.journal_no_file (of_path path)
told_journal (journals.Unopened kind) path = detailed table.journal_unopened (of_path path) None
told_journal (journals.Closed fault) path = told_closed fault path
told_journal (journals.NotSmaller cause) path = told_not_smaller cause path
told_journal journals.NotExchanged path = by table.not_exchanged (of_path path)
