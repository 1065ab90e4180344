-- How what was taken of a tree so far fits the folders that were visited.
use Rattle.std.specs.Prelude.{◌≡◌, ◌⊎◌, ℕ, ◌+◌, ◌≤◌, true, List, [], ◌∷◌, ◌++◌, length, map, reverse}
use Rattle.std.specs.List.{count_by, flat_map, list_all, AllByRecursion}
use Rattle.droid_frame.specs.declared.record.Record.{Record}
use Rattle.droid_pronom.specs.Registry.{Contents}
use Rattle.droid_tree.specs.Heard.{Heard}
use Rattle.droid_tree.specs.Observation.{Observation, GoesOver}
use Rattle.droid_tree.specs.Paths.{top}
use Rattle.droid_tree.specs.declared.folder_entry.FolderEntry.{FolderEntry}
use Rattle.droid_profile.specs.Calls.{Call, OfFolder, folder_calls, reads_of}
use Rattle.droid_profile.specs.EarlyEnds.{TreeStands}
use Rattle.droid_profile.specs.ProfileRecords.{records_of}
use Rattle.droid_profile.specs.Visits.{Visit, Follow, InTurn, IsBegun, IsVisit, folder_calls_of, heard_of_visit}
use Rattle.droid_profile.specs.Visits.{is_complete, numbers_of, reads_of_visit}
use Rattle.droid_profile.specs.declared.fault.ProfileFault.{ProfileFault}
use Rattle.droid_profile.specs.declared.fault.ProfileFault.TheVariants as faults
use Rattle.droid_profile.specs.declared.options.Options.{Options}
use Rattle.droid_profile.specs.FileStates.{AreFresh}
use Rattle.droid_profile.specs.declared.lanes.file_row.FileRow.{FileRow}
use Rattle.droid_profile.specs.RowsTaken.{HasMoment, HaveEnded, IsReady, MayBeRead, Readings, heard_of_row}
use Rattle.droid_profile.specs.RowsTaken.{is_counted_row, reads_of_files, records_of_row}
use Rattle.droid_profile.specs.declared.walk.row.Row.{Row}
use Rattle.droid_profile.specs.declared.walk.scan.Scan.{Scan}

-- the entries that are left of the folder that was listed last, the next one first
abbrev pub entries_left : Scan → List FolderEntry
entries_left scan = reverse scan.entries.items

-- all folders but the last were visited whole; of the last one these entries are left
pub record IsOpen (visits : List Visit) (scan : Scan) : Type 0 where
  pub before : List Visit
  pub last : Visit
  pub are : visits ≡ before ++ last ∷ []
  pub whole : AllByRecursion IsVisit before
  pub begun : IsBegun (entries_left scan) last
  pub folder : last.folder ≡ scan.folder

-- no folder was visited yet
pub record NoneOpen (visits : List Visit) (scan : Scan) : Type 0 where
  pub none : visits ≡ []
  pub empty : scan.entries.items ≡ []

-- The folders that were visited so far, if the files of the batch are read like this: what was handed out before, and
-- then the rows of the batch; what was read before, and then the files of the batch.
pub record Visited (registry : Contents) (options : Options) (readings : Readings) (calls : List Call)
    (heard : List Heard) (given : List Record) (scan : Scan) (rows : List Row) (files : List FileRow) : Type 0 where
  pub visits : List Visit
  pub in_turn : InTurn (top ∷ []) visits scan.waiting.items
  pub begun : IsOpen visits scan ⊎ NoneOpen visits scan
  pub numbered : Follow 0 (flat_map numbers_of visits)
  pub counted : length (flat_map numbers_of visits) ≡ scan.number
  pub complete : HaveEnded readings files → list_all is_complete visits ≡ true
  pub folders : folder_calls calls ≡ flat_map folder_calls_of visits
  pub reads : (number : ℕ)
      → reads_of number calls ++ reads_of_files number readings files ≡ flat_map (reads_of_visit number) visits
  pub entries : flat_map (heard_of_visit registry options) visits
      ≡ heard ++ flat_map (heard_of_row registry options readings files) rows
  pub records : records_of registry options visits
      ≡ given ++ flat_map (records_of_row registry options readings files) rows

-- Whatever the files of the batch are read as, the folders that were visited are such. The files have numbers of their
-- own, none above the last one that was given, and all rows can be handed out.
pub record ScanFits (registry : Contents) (options : Options) (calls : List Call) (heard : List Heard)
    (given : List Record) (scan : Scan) (rows : List Row) (files : List FileRow) : Type 0 where
  pub visited : (readings : Readings) → MayBeRead readings files
      → Visited registry options readings calls heard given scan rows files
  pub fresh : AreFresh files
  pub numbers : AllByRecursion (λ (file : FileRow). file.record.id ≤ scan.number) files
  pub moments : AllByRecursion HasMoment files
  pub ready : AllByRecursion (IsReady (length files)) rows

-- the calls for folders that were made since then, and with them all that was taken fits
pub record TakesMore {T : Type 0} (observes : T → Observation → T → Type 0) (registry : Contents) (options : Options)
    (calls : List Call) (heard : List Heard) (given : List Record) (scan : Scan) (rows : List Row)
    (files : List FileRow) (tree tree_after : T) : Type 0 where
  pub more : List Observation
  pub fits : ScanFits registry options (calls ++ map OfFolder more) heard given scan rows files
  pub observed : GoesOver observes tree more tree_after

-- memory ran out, or the last number is given
abbrev pub IsExplained : ProfileFault → ℕ → Type 0
IsExplained fault number = (fault ≡ faults.Memory) ⊎ ((fault ≡ faults.Numbers) × (number ≡ 4294967295))

-- At most this many entries were taken: no more got a number, and there are no more rows, without those of repeated
-- names.
pub record AddsFew (most : ℕ) (scan scan_after : Scan) (before after : List Row) : Type 0 where
  pub numbers : scan_after.number ≤ scan.number + most
  pub rows : count_by is_counted_row after ≤ count_by is_counted_row before + most

-- the taking ended early, with this fault: up to some entry all was taken as it should, and at most this many
pub record TakesFront {T : Type 0} (observes : T → Observation → T → Type 0) (registry : Contents) (options : Options)
    (calls : List Call) (heard : List Heard) (given : List Record) (fault : ProfileFault) (most : ℕ) (before : Scan)
    (rows_before : List Row) (tree tree_after : T) : Type 0 where
  pub scan : Scan
  pub rows : List Row
  pub files : List FileRow
  pub reached : T
  pub takes : TakesMore observes registry options calls heard given scan rows files tree reached
  pub stands : TreeStands fault reached tree_after
  pub explained : IsExplained fault scan.number
  pub few : AddsFew most before scan rows_before rows

-- if what was taken before fits, so does what was taken after, with the calls that were made in between
abbrev pub Takes : {T : Type 0} → (T → Observation → T → Type 0) → Scan → Scan → List Row → List Row → List FileRow
    → List FileRow → T → T → Type 0
Takes observes scan scan_after rows rows_after files files_after tree tree_after =
    (registry : Contents) (options : Options) (calls : List Call) (heard : List Heard) (given : List Record)
    → ScanFits registry options calls heard given scan rows files
    → TakesMore observes registry options calls heard given scan_after rows_after files_after tree tree_after

-- if what was taken before fits, some more was taken as it should, at most this many entries, and then it ended with
-- this fault
abbrev pub EndsTaking : {T : Type 0} → (T → Observation → T → Type 0) → ProfileFault → ℕ → Scan → List Row
    → List FileRow → T → T → Type 0
EndsTaking observes fault most scan rows files tree tree_after =
    (registry : Contents) (options : Options) (calls : List Call) (heard : List Heard) (given : List Record)
    → ScanFits registry options calls heard given scan rows files
    → TakesFront observes registry options calls heard given fault most scan rows tree tree_after
