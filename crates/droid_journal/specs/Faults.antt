-- Which faults come of reading a file, and of writing one.
use Rattle.std.specs.Prelude.{Option, None, Some}
use Rattle.droid_journal.specs.declared.journal_fault.Fault.{Fault}
use Rattle.droid_journal.specs.declared.journal_fault.Fault.TheVariants as faults

-- neither that the file was damaged, nor that it has another header, nor that it could not be written
abbrev pub IsOfReading : Fault → Type 0
IsOfReading faults.Memory = Unit {0}
IsOfReading faults.Read = Unit {0}
IsOfReading faults.Write = ⊥
IsOfReading faults.Header = ⊥
IsOfReading (faults.Record number) = Unit {0}
IsOfReading (faults.Damage records) = ⊥

-- the file could not be written: running out of memory is no fault of a journal that was opened
abbrev pub IsOfWriting : Fault → Type 0
IsOfWriting faults.Memory = ⊥
IsOfWriting faults.Read = ⊥
IsOfWriting faults.Write = Unit {0}
IsOfWriting faults.Header = ⊥
IsOfWriting (faults.Record number) = ⊥
IsOfWriting (faults.Damage records) = ⊥

-- if there is a fault, it is one of writing
abbrev pub MayBeOfWriting : Option Fault → Type 0
MayBeOfWriting None = Unit {0}
MayBeOfWriting (Some fault) = IsOfWriting fault
