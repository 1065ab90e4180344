-- What comes of rows, if their files are read like this.
use Rattle.std.specs.Prelude.{◌≡◌, ℕ, ◌<◌, ◌==◌, if◌then◌else◌, IsTrue, Bool, true, false, not, List, [], ◌∷◌, Option}
use Rattle.std.specs.Prelude.{Some, None, slice_get}
use Rattle.std.specs.List.{flat_map, AllByRecursion}
use Rattle.droid_core_spec.specs.Conditions.{is_moment}
use Rattle.droid_frame.specs.declared.record.Record.{Record}
use Rattle.droid_pronom.specs.Registry.{Contents}
use Rattle.droid_tree.specs.Heard.{Heard, Left, Held, TookBytes, TookFolder, TookFile}
use Rattle.droid_tree.specs.Observation.{Observation}
use Rattle.droid_tree.specs.declared.skip_reason.Skipped.{Skipped}
use Rattle.droid_tree.specs.declared.skip_reason.Skipped.TheVariants as reasons
use Rattle.droid_profile.specs.EarlyEnds.{is_same_name}
use Rattle.droid_profile.specs.Kids.{found_of, heard_of_file}
use Rattle.droid_profile.specs.Readings.{Reading, Ending, AtEnd, IsReading, bytes_of, has_ended, reads_in}
use Rattle.droid_profile.specs.declared.options.Options.{Options}
use Rattle.droid_profile.specs.BatchFits.{whole_record}
use Rattle.droid_profile.specs.declared.lanes.file_row.FileRow.{FileRow}
use Rattle.droid_profile.specs.declared.walk.row.Row.{Row}
use Rattle.droid_profile.specs.declared.walk.row.Row.TheVariants as rows

-- how the file with each number is read
abbrev pub Readings : Type 0
Readings = ℕ → Reading

-- how this file is read
abbrev pub reading_of : Readings → FileRow → Reading
reading_of readings file = readings file.record.id

-- ---- the watcher

-- what the watcher learns of a file of the batch
abbrev pub heard_at : Contents → Options → Readings → Option FileRow → List Heard
heard_at registry options readings None = []
heard_at registry options readings (Some file) =
    heard_of_file registry options file.record.path file.entry (reading_of readings file)
    (reading_of readings file).ending

-- what the watcher learns when a row is handed out
abbrev pub heard_of_row : Contents → Options → Readings → List FileRow → Row → List Heard
heard_of_row registry options readings files (rows.Left path why) = Left path why ∷ []
heard_of_row registry options readings files (rows.Folder shown) = TookFolder shown.path ∷ []
heard_of_row registry options readings files (rows.File place) =
    heard_at registry options readings (slice_get files place)

-- ---- the recipient

-- a file has a record if it was read to its end
abbrev pub records_by : Contents → Options → FileRow → Reading → Ending → List Record
records_by registry options file reading (AtEnd wanted bytes) =
    whole_record options file.record (found_of registry options file.entry (bytes_of reading)) (bytes_of reading) ∷ []
records_by registry options file reading _ = []

-- the record of a file of the batch
abbrev pub records_at : Contents → Options → Readings → Option FileRow → List Record
records_at registry options readings None = []
records_at registry options readings (Some file) =
    records_by registry options file (reading_of readings file) (reading_of readings file).ending

-- the record that the recipient gets for a row
abbrev pub records_of_row : Contents → Options → Readings → List FileRow → Row → List Record
records_of_row registry options readings files (rows.Left path why) = []
records_of_row registry options readings files (rows.Folder shown) = shown ∷ []
records_of_row registry options readings files (rows.File place) =
    records_at registry options readings (slice_get files place)

-- ---- the tree

-- the reads of a file, if it has this number
abbrev pub reads_of_row : ℕ → Readings → FileRow → List Observation
reads_of_row number readings file =
    if file.record.id == number then reads_in file.record.path file.entry (reading_of readings file) else []

-- the reads of the file with this number
abbrev pub reads_of_files : ℕ → Readings → List FileRow → List Observation
reads_of_files number readings files = flat_map (reads_of_row number readings) files

-- each file may be read like this
abbrev pub MayBeRead : Readings → List FileRow → Type 0
MayBeRead readings files =
    AllByRecursion (λ (file : FileRow). IsReading file.entry.len (reading_of readings file)) files

-- no reading is still under way
abbrev pub HaveEnded : Readings → List FileRow → Type 0
HaveEnded readings files = AllByRecursion (λ (file : FileRow). has_ended (reading_of readings file).ending ≡ true) files

-- ---- what can be handed out

-- the file was modified at a moment that a profile can have
abbrev pub HasMoment : FileRow → Type 0
HasMoment file = IsTrue (is_moment file.record.modified)

-- The row can be handed out, if the batch has this many files: a folder was modified at such a moment, and a file has a
-- place in the batch.
abbrev pub IsReady : ℕ → Row → Type 0
IsReady count (rows.Left path why) = Unit {0}
IsReady count (rows.Folder shown) = IsTrue (is_moment shown.modified)
IsReady count (rows.File place) = place < count

-- ---- how many wait

-- it is a row of anything but an entry that has the name of another one
abbrev pub is_counted_row : Row → Bool
is_counted_row (rows.Left path why) = not (is_same_name why)
is_counted_row (rows.Folder shown) = true
is_counted_row (rows.File place) = true

-- ---- whether something was skipped

-- it was skipped as a symbolic link
abbrev pub is_link_reason : Skipped → Bool
is_link_reason reasons.Link = true
is_link_reason _ = false

-- nothing was skipped but a symbolic link
abbrev pub is_kept : Heard → Bool
is_kept (Left path why) = is_link_reason why
is_kept (Held path count) = true
is_kept (TookBytes path count) = true
is_kept (TookFolder path) = true
is_kept (TookFile path found) = true
