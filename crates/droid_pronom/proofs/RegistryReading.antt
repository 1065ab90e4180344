-- A registry file, record by record.
use Rattle.std.proofs.Common.{Bor, ◌≢◌, ◌≡◌, ◌∙◌, ◌+◌, ◌++◌, ℕ, true, false, List, [], length, Option, Some, None, Result, Ok, Err, refl, sym, ap, arith, rules}
use Rattle.std.proofs.lemmas.List.{length-append}
use Rattle.csv.specs.Machine.{Read, next_record}
use Rattle.csv.specs.Reading.{ReadRecord, Reached, ExplainsRead, source_of, default_config}
use Rattle.csv.specs.declared.error.ErrorKind.{ErrorKind}
use Rattle.csv.specs.declared.error.ErrorKind.TheVariants as csv
use Rattle.csv.specs.declared.reader.Reader.{Reader}
use Rattle.csv.specs.declared.parser.State.{State}
use Rattle.csv.proofs.ReadFacts.{rows-more, rows-end}
use Rattle.droid_frame.specs.Reads.{ConsumesCount}
use Rattle.droid_pronom.specs.Registry.{Contents}
use Rattle.droid_pronom.specs.RegistryRecords as faults
use Rattle.droid_pronom.specs.RegistryRecords.{Draft, RecordFault, Step}
use Rattle.droid_pronom.specs.RegistryFile.{Outcome, taken, faulty, end, fault_at, taken_count, File, too_long, read}
use Rattle.droid_pronom.specs.RegistryCalls.{EndsReading, HasOutcome, fault_of, refusal_at}
use Rattle.droid_pronom.specs.declared.registry.fault.Refusal.{Refusal}
use Rattle.droid_pronom.specs.declared.registry.fault.Refusal.TheVariants as refusals
use Rattle.droid_pronom.specs.declared.registry.fault.RegistryFault.{RegistryFault}
use Rattle.droid_pronom.specs.declared.registry.fault.RegistryFault.TheVariants as registry_faults

-- the bytes of a slice that is read from
abbrev pub rest_of : Bor (List ℕ) → Option (List ℕ)
rest_of s = Some s.now

-- a read that found a record: which one it is, and what is left
pub record IsNext (a b : Reader (Bor (List ℕ))) (y : List ℕ) (texts : List (List ℕ)) : Type 0 where
  pub rest : List ℕ
  pub source : source_of rest_of b ≡ Some rest
  pub read : Read
  pub is : next_record default_config a.state [] [] y ≡ Some read
  pub fields : texts ≡ read.0
  pub state : read.1 ≡ b.state
  pub left : read.2 ≡ rest

pub next_read : (a b : Reader (Bor (List ℕ))) (y : List ℕ) (fields : List (List ℕ)) → a.config ≡ default_config → source_of rest_of a ≡ Some y → ReadRecord rest_of a b true fields → IsNext a b y fields
unfolding Reached
next_read a b y fields config source reads =
    let m = rows-more rest_of a b fields default_config a.state y y [] config source (refl, refl) reads in
    record { rest = m.0; source = m.1; read = m.2.0; is = m.2.1; fields = m.2.2; state = m.2.3.0; left = m.2.3.1 }

-- a reader that takes records of any length, as bytes, fails for memory or for the reader underneath
pub ends_reading : (a b : Reader (Bor (List ℕ))) (kind : ErrorKind) → a.flexible ≡ true → ExplainsRead rest_of a b false kind → EndsReading kind
ends_reading a b csv.OutOfMemory flexible why = tt
ends_reading a b (csv.Io e) flexible why = tt
ends_reading a b (csv.UnequalLengths pos expected len) flexible why = let bad : true ≡ false = sym flexible ∙ why.0 in cc
ends_reading a b (csv.Utf8 pos err) flexible why = let bad : false ≡ true = why.0 in cc
ends_reading a b (csv.Serialize text) flexible why = why
ends_reading a b (csv.Deserialize pos err) flexible why = why

-- a record that was taken
pub outcome_taken : (a b : Reader (Bor (List ℕ))) (y : List ℕ) (fields : List (List ℕ)) (n : IsNext a b y fields) (draft next : Draft) → Step draft fields (Ok next)
    → (r : Result Contents RegistryFault) → Outcome next b.state n.rest r → Outcome draft a.state y r
outcome_taken a b y fields n draft next step r o = taken {next = next} n.is (rw (← n.fields) step) (rw (n.state, n.left) o)

-- a record at fault
pub outcome_faulty : (a b : Reader (Bor (List ℕ))) (y : List ℕ) (fields : List (List ℕ)) (n : IsNext a b y fields) (draft : Draft) (fault : RecordFault) → Step draft fields (Err fault)
    → Outcome draft a.state y (Err (fault_at fault (taken_count draft + 1)))
outcome_faulty a b y fields n draft fault step = faulty n.is (rw (← n.fields) step)

-- the same, from what the call says of the record
pub outcome_refused : (a b : Reader (Bor (List ℕ))) (y : List ℕ) (fields : List (List ℕ)) (n : IsNext a b y fields) (draft new : Draft) (refusal : Refusal)
    → HasOutcome {X = Unit {0}} (Err refusal) new (Step draft fields) → ◌≢◌ {A = Result Contents RegistryFault} (Err (refusal_at refusal (taken_count draft + 1))) (Err registry_faults.Memory)
    → Outcome draft a.state y (Err (refusal_at refusal (taken_count draft + 1)))
outcome_refused a b y fields n draft new refusals.Memory reports some = absurd (some refl)
outcome_refused a b y fields n draft new (refusals.Fault fault) reports some = outcome_faulty a b y fields n draft (fault_of fault) reports

-- no record is left
pub outcome_end : (a b : Reader (Bor (List ℕ))) (y : List ℕ) (fields : List (List ℕ)) (draft : Draft) → a.config ≡ default_config → source_of rest_of a ≡ Some y → ReadRecord rest_of a b false fields
    → Outcome draft a.state y (Ok draft.registry)
outcome_end a b y fields draft config source reads = end (rows-end rest_of a b fields default_config y config source reads)

-- a reader of known bytes that gave one more than a file may have
pub read_too_long : (old new : Option (List ℕ)) (bytes : List ℕ) → ConsumesCount old new 16777217 → old ≡ Some bytes → File bytes (Err registry_faults.TooLong)
read_too_long None new bytes so is = cc
read_too_long (Some xs) None bytes so is = absurd so.consumed
read_too_long (Some xs) (Some rest) bytes so is =
    let same : xs ≡ bytes = cc in
    let whole : xs ≡ so.bytes ++ rest = so.consumed in
    too_long (omega (arith, so.counted, ap length whole, ap length same, length-append so.bytes rest))

-- ---- no record's fault is the reader's

fault_other : (fault : RecordFault) (at : ℕ) → ◌≢◌ (fault_at fault at) registry_faults.Read
fault_other faults.NotUtf8 at = search rules
fault_other faults.BadRecord at = search rules
fault_other faults.BadPattern at = search rules
fault_other faults.UnknownPuid at = search rules
fault_other faults.DuplicatePuid at = search rules
fault_other faults.TooMany at = search rules

outcome_other : {draft : Draft} {state : State} {bytes : List ℕ} {outcome : Result Contents RegistryFault} → Outcome draft state bytes outcome → outcome ≢ Err registry_faults.Read
outcome_other (end none) = search rules
outcome_other (taken next step rest) = outcome_other rest
outcome_other (faulty {draft = draft} {fault = fault} next step) = search (rules, fault_other fault (taken_count draft + 1))

pub file_other : {bytes : List ℕ} {outcome : Result Contents RegistryFault} → File bytes outcome → outcome ≢ Err registry_faults.Read
file_other (too_long more) = search rules
file_other (read within outcome) = outcome_other outcome
