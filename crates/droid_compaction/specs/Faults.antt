-- For inner clauses and proofs: which faults come of taking and of reading records.
use Rattle.droid_compaction.specs.declared.rewrite_fault.RewriteFault.{RewriteFault}
use Rattle.droid_compaction.specs.declared.rewrite_fault.RewriteFault.TheVariants as faults

-- out of memory, or the new file was not written
abbrev pub IsOfTaking : RewriteFault → Type 0
IsOfTaking faults.Memory = Unit {0}
IsOfTaking faults.Write = Unit {0}
IsOfTaking _ = ⊥

-- or the old file was not read
abbrev pub IsOfReading : RewriteFault → Type 0
IsOfReading faults.Memory = Unit {0}
IsOfReading faults.Write = Unit {0}
IsOfReading faults.Read = Unit {0}
IsOfReading _ = ⊥
