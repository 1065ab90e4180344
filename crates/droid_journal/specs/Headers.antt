-- Why no header can be made.
use Rattle.droid_journal.specs.declared.journal_fault.Fault.{Fault}
use Rattle.droid_journal.specs.declared.journal_fault.Fault.TheVariants as faults

-- memory ran out, or the file could not be read
abbrev pub IsMemoryOrRead : Fault → Type 0
IsMemoryOrRead faults.Memory = Unit {0}
IsMemoryOrRead faults.Read = Unit {0}
IsMemoryOrRead _ = ⊥
