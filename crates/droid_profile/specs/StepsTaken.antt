-- What one step takes: a file, a folder, or the entries of a folder.
use Rattle.std.specs.Prelude.{◌≡◌, ◌⊎◌, ℕ, ◌+◌, ◌-◌, ◌*◌, ◌^◌, ◌≤◌, false, List, [], ◌∷◌, ◌++◌, length, map, Option}
use Rattle.std.specs.Prelude.{Some, None}
use Rattle.droid_frame.specs.declared.hash_value.HashValue.TheVariants as hashes
use Rattle.droid_frame.specs.declared.method.Method.TheVariants.{Unidentified}
use Rattle.droid_frame.specs.declared.node_kind.NodeKind.TheVariants as kinds
use Rattle.droid_frame.specs.declared.record.Record.{Record}
use Rattle.droid_frame.specs.declared.refusal.Refusal.{Refusal}
use Rattle.droid_tree.specs.Kinds.{IsNoNode, reason_of_kind}
use Rattle.droid_tree.specs.Listings.{observed_of_folder}
use Rattle.droid_tree.specs.Observation.{Observation, Opened, Unopened}
use Rattle.droid_tree.specs.Paths.{below}
use Rattle.droid_tree.specs.declared.folder_entry.FolderEntry.{FolderEntry}
use Rattle.droid_tree.specs.declared.pending_folder.PendingFolder.{PendingFolder}
use Rattle.droid_tree.specs.declared.skip_reason.Skipped.{Skipped}
use Rattle.droid_tree.specs.declared.skip_reason.Skipped.TheVariants as reasons
use Rattle.droid_profile.specs.Kids.{IsNode, entry_refusal}
use Rattle.droid_profile.specs.ProfileRecords.{folder_record}
use Rattle.droid_profile.specs.Visits.{AreListed}
use Rattle.droid_profile.specs.declared.lanes.file_row.FileRow.{FileRow}
use Rattle.droid_profile.specs.declared.lanes.file_row.FileState.TheVariants.{Waits}
use Rattle.droid_profile.specs.RowsPushed.{left_row, repeated_row}
use Rattle.droid_profile.specs.ScanFits.{entries_left}
use Rattle.droid_profile.specs.declared.walk.row.Row.{Row}
use Rattle.droid_profile.specs.declared.walk.row.Row.TheVariants as rows
use Rattle.droid_profile.specs.declared.walk.scan.Scan.{Scan}

-- this entry was the next one of the folder that was listed last, and was taken off
pub record IsNext (before scan : Scan) (entry : FolderEntry) : Type 0 where
  pub same : scan ≡ record before { entries = scan.entries }
  pub entries : before.entries.items ≡ scan.entries.items ++ entry ∷ []

-- no folder has as many entries
unfoldable pub many : ℕ
many = 2 ^ 64

-- How much is left to be taken. A folder that waits, or one that may still get a number, counts more than all entries
-- of the folder that was listed last.
abbrev pub left_of : ℕ → ℕ → ℕ → ℕ
left_of waiting number entries = (waiting + (4294967295 - number)) * many + entries

-- the same of what is left in this moment
abbrev pub scan_left : Scan → ℕ
scan_left scan = left_of (length scan.waiting.items) scan.number (length scan.entries.items)

-- the entry is neither a folder nor a file, or one that no profile can have
abbrev pub IsSkipped : List ℕ → FolderEntry → Skipped → Type 0
IsSkipped path entry why =
    (IsNoNode entry.kind × (why ≡ reason_of_kind entry.kind))
    ⊎ (IsNode entry.kind × (refusal : Refusal) × (entry_refusal path entry ≡ Some refusal)
    × (why ≡ reasons.Refused refusal))

-- ---- a file

-- the record of a file before it is read
abbrev pub unread_record : PendingFolder → FolderEntry → ℕ → Record
unread_record folder entry number = record {
  id = number;
  parent = folder.number;
  path = below folder.path entry.name;
  name = entry.name;
  kind = kinds.File;
  size = entry.len;
  modified = entry.modified;
  method = Unidentified;
  mismatch = false;
  hash = hashes.Nothing;
  puids = [];
}

-- the file gets the next number, and the next place of the batch
pub record TakesFile (entry : FolderEntry) (scan scan_after : Scan) (before after : List Row)
    (files files_after : List FileRow) : Type 0 where
  pub file : FileRow
  pub its_record : file.record ≡ unread_record scan.folder entry (scan.number + 1)
  pub its_entry : file.entry ≡ entry
  pub waits : file.state ≡ Waits
  pub rows_are : after ≡ before ++ rows.File (length files) ∷ []
  pub files_are : files_after ≡ files ++ file ∷ []
  pub scan_is : scan_after ≡ record scan { number = scan.number + 1 }

-- ---- a folder

-- the folder can be listed: it gets the next number, and waits
pub record OpensFolder {T : Type 0} (observes : T → Observation → T → Type 0) (entry : FolderEntry)
    (scan scan_after : Scan) (before after : List Row) (tree tree_after : T) : Type 0 where
  pub few : scan.number + 1 ≤ 4294967295
  pub observed : observes tree (Opened (below scan.folder.path entry.name)) tree_after
  pub rows_are : after ≡ before ++ rows.Folder (folder_record scan.folder entry (scan.number + 1)) ∷ []
  pub waits : scan_after.waiting.items
      ≡ scan.waiting.items ++ record { path = below scan.folder.path entry.name; number = scan.number + 1 } ∷ []
  pub scan_is : scan_after ≡ record scan { waiting = scan_after.waiting; number = scan.number + 1 }

-- the folder can't be listed, and is skipped
pub record ClosesFolder {T : Type 0} (observes : T → Observation → T → Type 0) (entry : FolderEntry)
    (scan scan_after : Scan) (before after : List Row) (tree tree_after : T) : Type 0 where
  pub observed : observes tree (Unopened (below scan.folder.path entry.name)) tree_after
  pub rows_are : after ≡ before ++ left_row scan.folder.path entry reasons.Unreadable ∷ []
  pub scan_is : scan_after ≡ scan

-- either, by whether the folder can be listed
abbrev pub TakesFolder : {T : Type 0} → (T → Observation → T → Type 0) → FolderEntry → Scan → Scan → List Row → List Row
    → T → T → Type 0
TakesFolder observes entry scan scan_after before after tree tree_after =
    OpensFolder observes entry scan scan_after before after tree tree_after
    ⊎ ClosesFolder observes entry scan scan_after before after tree tree_after

-- ---- the entries of a folder

-- the folder is reported if it could not be listed
abbrev pub unlisted_rows : List ℕ → Option (List FolderEntry) → List Row
unlisted_rows path None = rows.Left path reasons.Unreadable ∷ []
unlisted_rows path (Some observed) = []

-- the folder was listed: one entry of each name is to be taken, in order, and the repeated ones are skipped
pub record ListsFolder {T : Type 0} (observes : T → Observation → T → Type 0) (folder : PendingFolder)
    (scan scan_after : Scan) (before after : List Row) (tree tree_after : T) : Type 0 where
  pub observed : Option (List FolderEntry)
  pub repeated : List FolderEntry
  pub came : observes tree (observed_of_folder folder.path observed) tree_after
  pub listed : AreListed observed (entries_left scan_after) repeated
  pub rows_are : after ≡ before ++ (unlisted_rows folder.path observed ++ map (repeated_row folder.path) repeated)
  pub scan_is : scan_after ≡ record scan { entries = scan_after.entries }
