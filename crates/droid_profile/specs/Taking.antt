-- How the text of records goes to the writers: at once, or later with that of other records (for inner clauses and
-- proofs).
use Rattle.std.specs.Prelude.{◌≡◌, ℕ, ◌<◌, Bool, true, false, MatchBool, List, [], ◌++◌, length, Option, Some, None}
use Rattle.std.specs.Io.KnownBytes.{Appends}
use Rattle.droid_frame.specs.Seen.{IsSound}
use Rattle.droid_frame.specs.declared.io.stream_record.Seen.{Seen}
use Rattle.droid_frame.specs.declared.record.Record.{Record}
use Rattle.droid_export.specs.Text.{record_text}
use Rattle.droid_profile.specs.declared.recipient.RecipientFault.{RecipientFault}
use Rattle.droid_profile.specs.declared.recipient.RecipientFault.TheVariants as recipient_faults
use Rattle.droid_profile.specs.Texts.{line_of}
use Rattle.droid_profile.specs.Writers.{LastsOn, Stops}
use Rattle.droid_profile.specs.declared.csv_fault.CsvFault.{CsvFault}
use Rattle.droid_profile.specs.declared.csv_fault.CsvFault.TheVariants as faults
use Rattle.droid_profile.specs.declared.csv_recipient.CsvRecipient.{CsvRecipient}

-- ---- one writer

-- some bytes were pending for a writer, and others were added: the first of all these were written, and the rest is
-- pending now
pub record Goes {O : Type 0} (contents : O → Option (List ℕ)) (seen : O → Seen) (writer writer_after : O)
    (pending pending_after added : List ℕ) : Type 0 where
  pub written : List ℕ
  pub are : pending ++ added ≡ written ++ pending_after
  pub appended : Appends (contents writer) (contents writer_after) written
  pub lasts : IsSound (seen writer) → LastsOn (seen writer) (seen writer_after)

-- the writer stopped within these bytes
pub record Breaks {O : Type 0} (contents : O → Option (List ℕ)) (seen : O → Seen) (room : O → Option ℕ)
    (writer writer_after : O) (pending added : List ℕ) : Type 0 where
  pub written : List ℕ
  pub rest : List ℕ
  pub are : pending ++ added ≡ written ++ rest
  pub left : 0 < length rest
  pub appended : Appends (contents writer) (contents writer_after) written
  pub stops : IsSound (seen writer) → Stops (seen writer) (seen writer_after) (room writer_after)

-- the same of the list's writer, if there is one
abbrev pub ListGoes : {M : Type 0} → (M → Option (List ℕ)) → (M → Seen) → Option M → Option M → List ℕ → List ℕ → List ℕ
    → Type 0
ListGoes contents seen None None pending pending_after added = Unit {0}
ListGoes contents seen None (Some new) pending pending_after added = ⊥
ListGoes contents seen (Some old) None pending pending_after added = ⊥
ListGoes contents seen (Some old) (Some new) pending pending_after added =
    Goes contents seen old new pending pending_after added

-- the list's writer stopped, so there is one
abbrev pub ListBreaks : {M : Type 0} → (M → Option (List ℕ)) → (M → Seen) → (M → Option ℕ) → Option M → Option M
    → List ℕ → List ℕ → Type 0
ListBreaks contents seen room None new pending added = ⊥
ListBreaks contents seen room (Some old) None pending added = ⊥
ListBreaks contents seen room (Some old) (Some new) pending added = Breaks contents seen room old new pending added

-- a line was added, if there is a list
abbrev pub LinesGrow : {M : Type 0} → Option M → List ℕ → List ℕ → List ℕ → Type 0
LinesGrow None lines lines_after line = Unit {0}
LinesGrow (Some writer) lines lines_after line = lines_after ≡ lines ++ line

-- ---- both

-- rows and lines were added
pub record GoesOn {O M : Type 0} (contents : O → Option (List ℕ)) (seen : O → Seen)
    (list_contents : M → Option (List ℕ)) (list_seen : M → Seen) (old : CsvRecipient O M) (rows lines : List ℕ)
    (new : CsvRecipient O M) : Type 0 where
  pub registry : new.registry.now ≡ old.registry.now
  pub csv : Goes contents seen old.csv new.csv old.rows new.rows rows
  pub list : ListGoes list_contents list_seen old.manifest new.manifest old.lines.items new.lines.items lines

-- the CSV's writer stopped
pub record BreaksCsv {O M : Type 0} (contents : O → Option (List ℕ)) (seen : O → Seen) (room : O → Option ℕ)
    (list_contents : M → Option (List ℕ)) (list_seen : M → Seen) (old : CsvRecipient O M) (rows lines : List ℕ)
    (new : CsvRecipient O M) : Type 0 where
  pub registry : new.registry.now ≡ old.registry.now
  pub csv : Breaks contents seen room old.csv new.csv old.rows rows
  pub list : ListGoes list_contents list_seen old.manifest new.manifest old.lines.items new.lines.items lines

-- the list's writer stopped
pub record BreaksList {O M : Type 0} (contents : O → Option (List ℕ)) (seen : O → Seen)
    (list_contents : M → Option (List ℕ)) (list_seen : M → Seen) (list_room : M → Option ℕ) (old : CsvRecipient O M)
    (rows lines : List ℕ) (new : CsvRecipient O M) : Type 0 where
  pub registry : new.registry.now ≡ old.registry.now
  pub csv : Goes contents seen old.csv new.csv old.rows new.rows rows
  pub list : ListBreaks list_contents list_seen list_room old.manifest new.manifest old.lines.items lines

-- the writer stopped that was written to last
abbrev pub BreaksOne : {O M : Type 0} → (O → Option (List ℕ)) → (O → Seen) → (O → Option ℕ) → (M → Option (List ℕ))
    → (M → Seen) → (M → Option ℕ) → CsvRecipient O M → List ℕ → List ℕ → CsvRecipient O M → Type 0
BreaksOne contents seen room list_contents list_seen list_room old rows lines new =
    MatchBool new.wrote_list (BreaksList contents seen list_contents list_seen list_room old rows lines new)
    (BreaksCsv contents seen room list_contents list_seen old rows lines new)

-- ---- one record

-- the record was taken
abbrev pub Takes : {O M : Type 0} → (O → Option (List ℕ)) → (O → Seen) → (M → Option (List ℕ)) → (M → Seen)
    → CsvRecipient O M → Record → CsvRecipient O M → Type 0
Takes contents seen list_contents list_seen old next new =
    GoesOn contents seen list_contents list_seen old (record_text old.registry.now next) (line_of next) new

-- if there is a list, fewer than 64 KiB of its lines are pending
abbrev pub FewLines : {M : Type 0} → Option M → List ℕ → Type 0
FewLines None lines = Unit {0}
FewLines (Some writer) lines = length lines < 65536

-- fewer than 64 KiB of the rows are pending, and of the lines
pub record IsFew {O M : Type 0} (it : CsvRecipient O M) : Type 0 where
  pub rows : length it.rows < 65536
  pub lines : FewLines it.manifest it.lines.items

-- the record was taken, and all was written by then but the last rows and lines
abbrev pub TakesSoon : {O M : Type 0} → (O → Option (List ℕ)) → (O → Seen) → (M → Option (List ℕ)) → (M → Seen)
    → CsvRecipient O M → Record → CsvRecipient O M → Type 0
TakesSoon contents seen list_contents list_seen old next new =
    Takes contents seen list_contents list_seen old next new × IsFew new

-- nothing changed
pub record Stays {O M : Type 0} (old new : CsvRecipient O M) : Type 0 where
  pub registry : new.registry.now ≡ old.registry.now
  pub csv : new.csv ≡ old.csv
  pub rows : new.rows ≡ old.rows
  pub manifest : new.manifest ≡ old.manifest
  pub lines : new.lines.items ≡ old.lines.items

-- the record was not taken, or only in part
abbrev pub Fails : {O M : Type 0} → (O → Option (List ℕ)) → (O → Seen) → (O → Option ℕ) → (M → Option (List ℕ))
    → (M → Seen) → (M → Option ℕ) → CsvRecipient O M → Record → RecipientFault → CsvRecipient O M → Type 0
Fails contents seen room list_contents list_seen list_room old next recipient_faults.Memory new = Stays old new
Fails contents seen room list_contents list_seen list_room old next (recipient_faults.Write fault) new =
    BreaksOne contents seen room list_contents list_seen list_room old (record_text old.registry.now next)
    (line_of next) new

-- ---- all that is pending

-- all was written
pub record WritesRest {O M : Type 0} (contents : O → Option (List ℕ)) (seen : O → Seen)
    (list_contents : M → Option (List ℕ)) (list_seen : M → Seen) (old new : CsvRecipient O M) : Type 0 where
  pub registry : new.registry.now ≡ old.registry.now
  pub csv : Goes contents seen old.csv new.csv old.rows [] []
  pub list : ListGoes list_contents list_seen old.manifest new.manifest old.lines.items [] []

-- all rows were written, and the list's writer stopped
pub record StopsList {O M : Type 0} (contents : O → Option (List ℕ)) (seen : O → Seen)
    (list_contents : M → Option (List ℕ)) (list_seen : M → Seen) (list_room : M → Option ℕ) (old new : CsvRecipient O M)
    : Type 0 where
  pub breaks : BreaksList contents seen list_contents list_seen list_room old [] [] new
  pub emptied : new.rows ≡ []

-- all was written, or a writer stopped, and this fault was returned
abbrev pub EndsRest : {O M : Type 0} → (O → Option (List ℕ)) → (O → Seen) → (O → Option ℕ) → (M → Option (List ℕ))
    → (M → Seen) → (M → Option ℕ) → CsvFault → CsvRecipient O M → CsvRecipient O M → Type 0
EndsRest contents seen room list_contents list_seen list_room faults.Csv old new =
    BreaksCsv contents seen room list_contents list_seen old [] [] new
EndsRest contents seen room list_contents list_seen list_room faults.Manifest old new =
    StopsList contents seen list_contents list_seen list_room old new
EndsRest contents seen room list_contents list_seen list_room _ old new =
    WritesRest contents seen list_contents list_seen old new

-- the fault of the writer that was written to last
abbrev pub stopped_writer : Bool → CsvFault
stopped_writer true = faults.Manifest
stopped_writer false = faults.Csv
