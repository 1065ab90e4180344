-- The outcome of a registry file's bytes: a registry, or the first fault with the number of its record, counted from 1.
use Rattle.std.specs.Prelude.{◌≡◌, ℕ, ◌+◌, ◌<◌, ◌≤◌, List, [], length, Some, None, Result, Ok, Err}
use Rattle.csv.specs.Machine.{Read, next_record}
use Rattle.csv.specs.Reading.{default_config, strip_bom}
use Rattle.csv.specs.declared.parser.State.{State}
use Rattle.csv.specs.declared.parser.State.TheVariants as st
use Rattle.droid_pronom.specs.Registry.{Contents, nothing}
use Rattle.droid_pronom.specs.RegistryRecords as record_fault
use Rattle.droid_pronom.specs.RegistryRecords.{Draft, RecordFault, Step}
use Rattle.droid_pronom.specs.declared.registry.fault.RegistryFault.{RegistryFault}
use Rattle.droid_pronom.specs.declared.registry.fault.RegistryFault.TheVariants as registry_faults

-- a record's fault, with the record's number
abbrev pub fault_at : RecordFault → ℕ → RegistryFault
fault_at record_fault.NotUtf8 at = registry_faults.NotUtf8 at
fault_at record_fault.BadRecord at = registry_faults.BadRecord at
fault_at record_fault.BadPattern at = registry_faults.BadPattern at
fault_at record_fault.UnknownPuid at = registry_faults.UnknownPuid at
fault_at record_fault.DuplicatePuid at = registry_faults.DuplicatePuid at
fault_at record_fault.TooMany at = registry_faults.TooMany at

-- the draft before the first record
abbrev pub empty_draft : Draft
empty_draft = record { registry = nothing; sequences = 0; current = None }

-- the number of records so far: each is a row of one of the tables, or a byte sequence
abbrev pub taken_count : Draft → ℕ
taken_count draft =
    length draft.registry.formats + length draft.registry.extensions + length draft.registry.priorities
    + draft.sequences

-- The outcome of the remaining bytes, after the records that are in the draft. A record is what `csv` reads next with
-- its default settings.
pub data Outcome : Draft → State → List ℕ → Result Contents RegistryFault → Type 0 where
  end : {draft : Draft} {state : State} {bytes : List ℕ}
      → next_record default_config state [] [] bytes ≡ None → Outcome draft state bytes (Ok draft.registry)
  taken : {draft next : Draft} {state : State} {bytes : List ℕ} {read : Read} {outcome : Result Contents RegistryFault}
      → next_record default_config state [] [] bytes ≡ Some read → Step draft read.0 (Ok next)
      → Outcome next read.1 read.2 outcome → Outcome draft state bytes outcome
  faulty : {draft : Draft} {state : State} {bytes : List ℕ} {read : Read} {fault : RecordFault}
      → next_record default_config state [] [] bytes ≡ Some read → Step draft read.0 (Err fault)
      → Outcome draft state bytes (Err (fault_at fault (taken_count draft + 1)))

-- the outcome of a registry file
pub data File (bytes : List ℕ) : Result Contents RegistryFault → Type 0 where
  too_long : 16777216 < length bytes → File bytes (Err registry_faults.TooLong)
  read : {outcome : Result Contents RegistryFault} → length bytes ≤ 16777216
      → Outcome empty_draft st.StartRecord (strip_bom bytes) outcome → File bytes outcome
