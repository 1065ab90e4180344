-- For inner clauses and proofs: what the calls that add one record promise, in the code's own types.
use Rattle.std.specs.Prelude.{◌≡◌, ℕ, List, None, Result, Ok, Err, ⊤}
use Rattle.csv.specs.declared.error.ErrorKind.{ErrorKind}
use Rattle.csv.specs.declared.error.ErrorKind.TheVariants as csv
use Rattle.droid_pattern.specs.Patterns.{Element}
use Rattle.droid_pattern.specs.PatternText.{Spells}
use Rattle.droid_pronom.specs.RegistryFields as kind
use Rattle.droid_pronom.specs.RegistryFile.{fault_at}
use Rattle.droid_pronom.specs.RegistryRecords as record_fault
use Rattle.droid_pronom.specs.RegistryRecords.{Draft, RecordFault, ReadsAs}
use Rattle.droid_pronom.specs.declared.registry.draft.Draft as inside
use Rattle.droid_pronom.specs.declared.registry.fault.Fault.{Fault}
use Rattle.droid_pronom.specs.declared.registry.fault.Fault.TheVariants as faults
use Rattle.droid_pronom.specs.declared.registry.fault.Refusal.{Refusal}
use Rattle.droid_pronom.specs.declared.registry.fault.Refusal.TheVariants as refusals
use Rattle.droid_pronom.specs.declared.registry.fault.RegistryFault.{RegistryFault}
use Rattle.droid_pronom.specs.declared.registry.fault.RegistryFault.TheVariants as registry_faults
use Rattle.droid_pronom.specs.declared.registry.record_kind.RecordKind.{RecordKind}
use Rattle.droid_pronom.specs.declared.registry.record_kind.RecordKind.TheVariants as kinds

-- the contents of the code's draft
abbrev pub draft_of : inside.Draft → Draft
draft_of draft = record { registry = draft.registry; sequences = draft.sequences; current = draft.current }

-- the code's kinds and faults of a record
abbrev pub kind_is : RecordKind → kind.Kind
kind_is kinds.Format = kind.Format
kind_is kinds.Extension = kind.Extension
kind_is kinds.Priority = kind.Priority
kind_is kinds.Signature = kind.Signature
kind_is kinds.Sequence = kind.Sequence

-- the fault of a record, as the definitions of the file name it
abbrev pub fault_of : Fault → RecordFault
fault_of faults.NotUtf8 = record_fault.NotUtf8
fault_of faults.BadRecord = record_fault.BadRecord
fault_of faults.BadPattern = record_fault.BadPattern
fault_of faults.UnknownPuid = record_fault.UnknownPuid
fault_of faults.DuplicatePuid = record_fault.DuplicatePuid
fault_of faults.TooMany = record_fault.TooMany

-- a refused call: the expected result is this fault, unless memory ran out
abbrev pub Refuses : {Y : Type 0} → Refusal → Result Y RecordFault → Type 0
Refuses refusals.Memory expected = ⊤
Refuses (refusals.Fault fault) expected = expected ≡ Err (fault_of fault)

-- the result of a call, seen through `view`, is the expected one, unless memory ran out
abbrev pub Gives : {X Y : Type 0} → (X → Y) → Result X Refusal → Result Y RecordFault → Type 0
Gives view (Ok x) expected = expected ≡ Ok (view x)
Gives view (Err refusal) expected = Refuses refusal expected

-- what a call says of an outcome: after a success the draft is the new one; running out of memory says nothing
abbrev pub HasOutcome : {X : Type 0} → Result X Refusal → Draft → (Result Draft RecordFault → Type 0) → Type 0
HasOutcome (Ok x) new P = P (Ok new)
HasOutcome (Err refusals.Memory) new P = ⊤
HasOutcome (Err (refusals.Fault fault)) new P = P (Err (fault_of fault))

-- what a call says of the text of a pattern
abbrev pub ReportsPattern : Result (List Element) Refusal → List ℕ → Type 0
ReportsPattern (Ok elements) text = Spells text elements
ReportsPattern (Err refusals.Memory) text = ⊤
ReportsPattern (Err (refusals.Fault fault)) text = (fault ≡ faults.BadPattern) × ReadsAs text None

-- the error for a whole file, if the record with that number could not be added
abbrev pub refusal_at : Refusal → ℕ → RegistryFault
refusal_at refusals.Memory at = registry_faults.Memory
refusal_at (refusals.Fault fault) at = fault_at (fault_of fault) at

-- the errors of `csv` that can end the reading of byte records: out of memory, or a failed reader
abbrev pub EndsReading : ErrorKind → Type 0
EndsReading csv.OutOfMemory = ⊤
EndsReading (csv.Io e) = ⊤
EndsReading (csv.UnequalLengths pos expected len) = ⊥
EndsReading (csv.Utf8 pos err) = ⊥
EndsReading (csv.Serialize text) = ⊥
EndsReading (csv.Deserialize pos err) = ⊥
