-- What a service with a journal stands for (this project's own).
use Rattle.std.specs.Prelude.{◌≡◌, ◌⊎◌, ℕ, true, false, List, length}
use Rattle.droid_frame.specs.Streams.{IsReadable}
use Rattle.droid_frame.specs.declared.frame.Frame.{Frame}
use Rattle.droid_frame.specs.declared.refusal.Refusal.TheVariants.{Malformed, Memory}
use Rattle.droid_frame.specs.declared.reply.Reply.{Reply}
use Rattle.droid_frame.specs.declared.reply.Reply.TheVariants.{Refused}
use Rattle.droid_core_spec.specs.Histories.{Handles, History, next}
use Rattle.droid_core_spec.specs.Setting.{Setting}
use Rattle.droid_journal.specs.Standing.{Keeps, Stands}
use Rattle.droid_journal.specs.Turns.{IsTurn}
use Rattle.droid_journal.specs.declared.journal.Journal.{Journal}
use Rattle.droid_journal.specs.Chains.{NoneLaterByChance, NotByChance, journal_bytes}
use Rattle.droid_journal.specs.Fronts.{IsFront}
use Rattle.droid_journal.specs.Records.{AllFit, Record}
use Rattle.droid_recovery.specs.Standing as recovering
use Rattle.droid_recovery.specs.Standing.{Recovery}
use Rattle.droid_wire.specs.Histories.{Base, HasBare, IsHistoryBehind, StandsForRecords}
use Rattle.droid_wire.specs.declared.small_reader.SmallReader.{SmallReader}
use Rattle.droid_wire.specs.declared.service_machine.ServiceMachine.{ServiceMachine}

-- The service stands for all of this history, and the file has it; the first history of it is on the disk.
pub record StandsForHistory {F : Type 0} (has : F → List ℕ → Type 0) (kept : F → List ℕ) (setting : Setting)
    (header : List ℕ) (journal : Journal F ServiceMachine) (synced all : History) : Type 0 where
  pub base : Base setting
  pub first : List Record
  pub records : List Record
  pub stands : Stands has kept
      (λ (machine : ServiceMachine) (its : List Record). StandsForRecords setting base machine.service its) header
      journal first records
  pub on_disk : IsHistoryBehind setting base first synced
  pub accepted : IsHistoryBehind setting base records all

-- However the last call ended: this history is on the disk, and no more than that was written.
pub record KeepsHistory {F : Type 0} (kept : F → List ℕ) (setting : Setting) (header : List ℕ) (file : F)
    (written : List Record) (synced all : History) : Type 0 where
  pub base : Base setting
  pub first : List Record
  pub keeps : Keeps kept header file first written
  pub on_disk : IsHistoryBehind setting base first synced
  pub accepted : IsHistoryBehind setting base written all

-- What a crash leaves of a journal's file: the records of the one history, and then any bytes, which are not by chance
-- further records, nor have one of a later turn. The other history is that of all that was written.
pub record IsLeft (setting : Setting) (header file : List ℕ) (synced all : History) : Type 0 where
  pub base : Base setting
  pub first : List Record
  pub written : List Record
  pub fit : AllFit first
  pub turn : IsTurn first written
  pub on_disk : IsHistoryBehind setting base first synced
  pub accepted : IsHistoryBehind setting base written all
  pub front : IsFront (journal_bytes header first) file
  pub chance : NotByChance header written file
  pub later : NoneLaterByChance header written file (length (journal_bytes header first))

-- The reply is that of a service that stands for the history, and the claim holds of what comes next; or there was no
-- memory to spell the request, or no stream can carry it, and the claim holds of this history.
abbrev pub AnswersIn : Setting → History → Frame → Reply → (History → Type 0) → Type 0
AnswersIn setting history frame reply Claim =
    Handles setting history frame reply Claim
    ⊎ (((reply ≡ Refused Memory) ⊎ ((IsReadable frame → ⊥) × (reply ≡ Refused Malformed))) × Claim history)

-- nothing was accepted since, or this request
abbrev pub IsNextOr : Setting → History → Frame → History → Type 0
IsNextOr setting history frame after = (after ≡ history) ⊎ (after ≡ next setting history frame)

-- ---- reading a journal that was made small

-- the machine stands for the records, and knows whether one of them lacks its bytes
pub record ReadsRecords (recovery : Recovery) (reader : SmallReader) (records : List Record) : Type 0 where
  pub recovers : recovering.StandsForRecords recovery reader.machine records
  pub noted : reader.is_small ≡ true → HasBare records
  pub none : reader.is_small ≡ false → HasBare records → ⊥
