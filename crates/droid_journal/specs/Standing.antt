-- What a journal stands for (this project's own).
use Rattle.std.specs.Prelude.{◌≡◌, if◌then◌else◌, ℕ, Bool, true, false, List, [], ◌∷◌, ◌++◌}
use Rattle.droid_frame.specs.declared.frame.Frame.{Frame}
use Rattle.droid_frame.specs.declared.reply.Reply.{Reply}
use Rattle.droid_journal.specs.Chains.{form_of, journal_bytes, key_of, last_place}
use Rattle.droid_journal.specs.Fronts.{IsFront}
use Rattle.droid_journal.specs.Records.{AllFit, Record, by_form, turn_mark}
use Rattle.droid_journal.specs.declared.records.key.Form.TheVariants as forms
use Rattle.droid_journal.specs.Machines.{record_of}
use Rattle.droid_journal.specs.Turns.{IsTurn}
use Rattle.droid_journal.specs.declared.journal.Journal.{Journal}

-- what stands behind the records: the beginning of the next turn, if it was written (in version 3 it never is)
abbrev pub ahead_bytes : List ℕ → List Record → Bool → List ℕ
ahead_bytes header its ahead =
    if ahead then by_form (form_of header) [] (turn_mark (key_of header) (last_place header its).at) else []

-- these records are on the disk, and nothing else but perhaps the beginning of the next turn
abbrev pub AreOnDisk : List ℕ → List Record → List ℕ → Type 0
AreOnDisk header its kept = (ahead : Bool) × (kept ≡ journal_bytes header its ++ ahead_bytes header its ahead)

-- The machine stands for all these records, and the file has them behind its header, and perhaps
-- the beginning of the next turn; the first of them are on the disk.
pub record Stands {F M : Type 0} (has : F → List ℕ → Type 0) (kept : F → List ℕ) (stands : M → List Record → Type 0)
    (header : List ℕ) (journal : Journal F M) (synced all : List Record) : Type 0 where
  pub machine : stands journal.machine all
  pub file : has journal.file (journal_bytes header all ++ ahead_bytes header all journal.ahead)
  pub on_disk : AreOnDisk header synced (kept journal.file)
  pub turn : IsTurn synced all
  pub key : journal.key ≡ key_of header
  pub place : journal.place ≡ last_place header all
  pub fit : AllFit all
  pub clean : journal.unsynced ≡ false → synced ≡ all
  pub begins : journal.ahead ≡ true → (journal.unsynced ≡ false) × (form_of header ≡ forms.Present)

-- all of them are on the disk
abbrev pub IsSettled : {F M : Type 0} (has : F → List ℕ → Type 0) (kept : F → List ℕ)
    (stands : M → List Record → Type 0) (header : List ℕ) (journal : Journal F M)
    → List Record → Type 0
IsSettled has kept stands header journal records = Stands has kept stands header journal records records

-- However a call ended: the file has all records and one more for the request, or a front of their bytes.
pub record WroteOne {F : Type 0} (has : F → List ℕ → Type 0) (gives : List Record → Frame → Reply → Bool → Type 0)
    (header : List ℕ) (file : F) (synced all : List Record) (frame : Frame) : Type 0 where
  pub written : List Record
  pub turn : IsTurn synced written
  pub bytes : List ℕ
  pub in_file : has file bytes
  pub front : IsFront bytes (journal_bytes header written)
  pub which : (first : Bool) × (reply : Reply) × gives all frame reply true
      × (written ≡ all ++ record_of first frame reply ∷ [])

-- However the last call ended: the first records that were written are on the disk.
pub record Keeps {F : Type 0} (kept : F → List ℕ) (header : List ℕ) (file : F) (synced written : List Record)
    : Type 0 where
  pub on_disk : AreOnDisk header synced (kept file)
  pub turn : IsTurn synced written
  pub fit : AllFit synced
