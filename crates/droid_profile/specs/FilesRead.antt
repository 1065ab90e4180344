-- What stands after the files of a batch were read.
use Rattle.std.specs.Prelude.{◌≡◌, ℕ, true, List, [], ◌++◌, length, map, Some, slice_get, Contains}
use Rattle.droid_pronom.specs.Registry.{Contents}
use Rattle.droid_tree.specs.Heard.{Heard}
use Rattle.droid_tree.specs.Observation.{Observation, GoesOver}
use Rattle.droid_profile.specs.Calls.{Call, folder_calls, heard_of_calls, observation_of, reads_of}
use Rattle.droid_profile.specs.EarlyEnds.{TreeStands}
use Rattle.droid_profile.specs.Kids.{found_of}
use Rattle.droid_profile.specs.Readings.{Reading, IsReading, bytes_of, is_whole, reads_in}
use Rattle.droid_profile.specs.declared.fault.ProfileFault.{ProfileFault}
use Rattle.droid_profile.specs.declared.fault.ProfileFault.TheVariants as faults
use Rattle.droid_profile.specs.declared.options.Options.{Options}
use Rattle.droid_profile.specs.BatchFits.{BatchFits, IsDropped, whole_record}
use Rattle.droid_profile.specs.FileStates.{numbers_in}
use Rattle.droid_profile.specs.declared.lanes.batch.Batch.{Batch}
use Rattle.droid_profile.specs.declared.lanes.file_row.FileRow.{FileRow}
use Rattle.droid_profile.specs.declared.lanes.file_row.FileState.{FileState}
use Rattle.droid_profile.specs.declared.lanes.file_row.FileState.TheVariants.{Waits, InLane, Whole, Dropped}

-- what a file came to
abbrev pub IsSettled : Contents → Options → FileRow → FileRow → Reading → FileState → Type 0
IsSettled registry options was row reading Waits = ⊥
IsSettled registry options was row reading (InLane j) = ⊥
IsSettled registry options was row reading Whole =
    (is_whole reading.ending ≡ true)
    × (row.record
    ≡ whole_record options was.record (found_of registry options was.entry (bytes_of reading)) (bytes_of reading))
IsSettled registry options was row reading (Dropped why) = IsDropped reading.ending why × (row.record ≡ was.record)

-- the file was read to its end
pub record Settles (registry : Contents) (options : Options) (calls : List Call) (was row : FileRow) : Type 0 where
  pub reading : Reading
  pub is_reading : IsReading was.entry.len reading
  pub reads : reads_of was.record.id calls ≡ reads_in was.record.path was.entry reading
  pub state : IsSettled registry options was row reading row.state

-- the first reads of the file
pub record ReadsSome (calls : List Call) (was : FileRow) : Type 0 where
  pub reading : Reading
  pub is_reading : IsReading was.entry.len reading
  pub reads : reads_of was.record.id calls ≡ reads_in was.record.path was.entry reading

-- these are reads of these files
pub record AreReads (files : List FileRow) (calls : List Call) : Type 0 where
  pub others : (number : ℕ) → ¬ (Contains (numbers_in files) number) → reads_of number calls ≡ []
  pub no_folders : folder_calls calls ≡ []

-- all files of a batch were read: what the tree returned, what the watcher learned, and what each file came to
pub record ReadsAll {T W : Type 0} (observes : T → Observation → T → Type 0) (hears : W → Heard → W → Type 0)
    (registry : Contents) (options : Options) (first files : List FileRow) (tree tree_after : T)
    (watcher watcher_after : W) : Type 0 where
  pub calls : List Call
  pub are : AreReads first calls
  pub observed : GoesOver observes tree (map observation_of calls) tree_after
  pub heard : GoesOver hears watcher (heard_of_calls calls) watcher_after
  pub counted : length files ≡ length first
  pub settled : (place : ℕ) (was row : FileRow) → slice_get first place ≡ Some was → slice_get files place ≡ Some row
      → Settles registry options calls was row

-- the reading ended early, with this fault
pub record ReadsFront {T W : Type 0} (observes : T → Observation → T → Type 0) (hears : W → Heard → W → Type 0)
    (first : List FileRow) (fault : ProfileFault) (tree tree_after : T) (watcher watcher_after : W) : Type 0 where
  pub calls : List Call
  pub are : AreReads first calls
  pub reached : T
  pub stands : TreeStands fault reached tree_after
  pub explained : fault ≡ faults.Memory
  pub observed : GoesOver observes tree (map observation_of calls) reached
  pub heard : GoesOver hears watcher (heard_of_calls calls) watcher_after
  pub begun : (place : ℕ) (was : FileRow) → slice_get first place ≡ Some was → ReadsSome calls was

-- ---- on the way

-- the reads so far
pub record ReadsOn {T W : Type 0} (observes : T → Observation → T → Type 0) (hears : W → Heard → W → Type 0)
    (registry : Contents) (options : Options) (first : List FileRow) (batch : Batch) (tree tree_now : T)
    (watcher watcher_now : W) : Type 0 where
  pub calls : List Call
  pub fits : BatchFits registry options first batch calls
  pub observed : GoesOver observes tree (map observation_of calls) tree_now
  pub heard : GoesOver hears watcher (heard_of_calls calls) watcher_now

-- more reads, after which the batch still fits what was read
pub record ReadsMore {T W : Type 0} (observes : T → Observation → T → Type 0) (hears : W → Heard → W → Type 0)
    (registry : Contents) (options : Options) (first : List FileRow) (batch : Batch) (calls : List Call)
    (tree tree_after : T) (watcher watcher_after : W) : Type 0 where
  pub more : List Call
  pub fits : BatchFits registry options first batch (calls ++ more)
  pub observed : GoesOver observes tree (map observation_of more) tree_after
  pub heard : GoesOver hears watcher (heard_of_calls more) watcher_after

-- the batch fits some reads of the files that it had at first
pub record Fits (registry : Contents) (options : Options) (batch : Batch) : Type 0 where
  pub first : List FileRow
  pub calls : List Call
  pub fits : BatchFits registry options first batch calls
