-- How a batch fits what was read of its files so far.
use Rattle.std.specs.Prelude.{◌≡◌, ℕ, ◌<◌, true, List, [], ◌++◌, length, drop, Some, slice_get, MatchBool, Contains}
use Rattle.droid_frame.specs.Hashes.{hash}
use Rattle.droid_frame.specs.declared.record.Record.{Record}
use Rattle.droid_pronom.specs.Registry.{Contents}
use Rattle.droid_pronom.specs.declared.identification.Found.{Found}
use Rattle.droid_hash.specs.Ends.{Came}
use Rattle.droid_hash.specs.Scanning.{Scanned}
use Rattle.droid_tree.specs.declared.folder_entry.FolderEntry.{FolderEntry}
use Rattle.droid_tree.specs.declared.skip_reason.Skipped.{Skipped}
use Rattle.droid_tree.specs.declared.skip_reason.Skipped.TheVariants as reasons
use Rattle.droid_profile.specs.Calls.{Call, folder_calls, reads_of}
use Rattle.droid_profile.specs.Kids.{found_of}
use Rattle.droid_profile.specs.Readings.{Reading, Ending, TooShort, TooLong, NoneCame, OtherFile, NotYet, IsReading}
use Rattle.droid_profile.specs.Readings.{bytes_of, is_whole, joined, reads_in, unread}
use Rattle.droid_profile.specs.declared.options.Options.{Options}
use Rattle.droid_profile.specs.FileStates.{AreFresh, numbers_in}
use Rattle.droid_profile.specs.LaneSteps.{IsFor}
use Rattle.droid_profile.specs.declared.lanes.batch.Batch.{Batch}
use Rattle.droid_profile.specs.declared.lanes.file_lane.FileLane.{FileLane}
use Rattle.droid_profile.specs.declared.lanes.file_row.FileRow.{FileRow}
use Rattle.droid_profile.specs.declared.lanes.file_row.FileState.{FileState}
use Rattle.droid_profile.specs.declared.lanes.file_row.FileState.TheVariants.{Waits, InLane, Whole, Dropped}

-- the record of a file whose bytes were all read
abbrev pub whole_record : Options → Record → Found → List ℕ → Record
whole_record options plain found bytes = record plain {
  method = found.method;
  mismatch = found.mismatch;
  hash = hash options.hash bytes;
  puids = found.puids;
}

-- a file was dropped for this reason
abbrev pub IsDropped : Ending → Skipped → Type 0
IsDropped (TooShort wanted bytes) why = why ≡ reasons.Changed
IsDropped (TooLong wanted bytes) why = why ≡ reasons.Changed
IsDropped (NoneCame wanted) why = why ≡ reasons.Unreadable
IsDropped (OtherFile wanted) why = why ≡ reasons.Changed
IsDropped _ why = ⊥

-- the lane has read this of a file: it hashed what is not in its buffer any more
pub record LaneFits (options : Options) (batch : Batch) (j place : ℕ) (entry : FolderEntry) (reading : Reading)
    : Type 0 where
  pub within : j < 8
  pub lane : FileLane
  pub there : slice_get batch.lanes.items j ≡ Some lane
  pub busy : lane.busy ≡ true
  pub its : lane.place ≡ place
  pub ending : MatchBool lane.at_end (is_whole reading.ending ≡ true)
      ((reading.ending ≡ NotYet) × (lane.from ≡ length (joined reading.pieces)))
  pub hashed : List ℕ
  pub scanned : Scanned batch.hashes j hashed
  pub bytes : bytes_of reading ≡ hashed ++ drop lane.hashed lane.buffer.items
  pub came : Came lane.ends (bytes_of reading)
  pub size : lane.ends.size ≡ entry.len

-- the file at this place is as far as its state says
abbrev pub StateFits : Contents → Options → Batch → ℕ → FileRow → FileRow → Reading → FileState → Type 0
StateFits registry options batch place was row reading Waits = (reading ≡ unread) × (row.record ≡ was.record)
StateFits registry options batch place was row reading (InLane j) =
    LaneFits options batch j place was.entry reading × (row.record ≡ was.record)
StateFits registry options batch place was row reading Whole =
    (is_whole reading.ending ≡ true)
    × (row.record
    ≡ whole_record options was.record (found_of registry options was.entry (bytes_of reading)) (bytes_of reading))
StateFits registry options batch place was row reading (Dropped why) =
    IsDropped reading.ending why × (row.record ≡ was.record)

-- what was read of the file at this place
pub record RowFits (registry : Contents) (options : Options) (first : List FileRow) (batch : Batch) (calls : List Call)
    (place : ℕ) (row : FileRow) : Type 0 where
  pub was : FileRow
  pub there : slice_get first place ≡ Some was
  pub entry : row.entry ≡ was.entry
  pub reading : Reading
  pub is_reading : IsReading was.entry.len reading
  pub reads : reads_of was.record.id calls ≡ reads_in was.record.path was.entry reading
  pub state : StateFits registry options batch place was row reading row.state

-- the files of the batch were these at first, and after these reads each is as far as its state says
pub record BatchFits (registry : Contents) (options : Options) (first : List FileRow) (batch : Batch)
    (calls : List Call) : Type 0 where
  pub fresh : AreFresh first
  pub made : IsFor options batch
  pub counted : length batch.files.items ≡ length first
  pub rows : (place : ℕ) (row : FileRow) → slice_get batch.files.items place ≡ Some row
      → RowFits registry options first batch calls place row
  pub queued : (place : ℕ) (row : FileRow) → slice_get batch.files.items place ≡ Some row → row.state ≡ Waits
      → Contains batch.waiting.items place
  pub others : (number : ℕ) → ¬ (Contains (numbers_in first) number) → reads_of number calls ≡ []
  pub no_folders : folder_calls calls ≡ []
