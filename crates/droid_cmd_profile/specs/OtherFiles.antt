-- A tree without the files that the command itself writes in it (this project's own).
use Rattle.std.specs.Prelude.{◌≡◌, ◌==◌, ◌&&◌, Bool, not, List, filter}
use Rattle.std.specs.List.{list_any}
use Rattle.droid_tree.specs.Observation.{Observation, Listed, Unlisted, Opened, Unopened, Read, Unread, Exchanged}
use Rattle.droid_tree.specs.declared.folder_entry.FolderEntry.{FolderEntry}
use Rattle.droid_disk.specs.declared.unfinished_file.FileId.{FileId}

-- the entry is this file
abbrev pub is_one : FileId → FolderEntry → Bool
is_one file entry = (file.device == entry.device) && (file.inode == entry.inode)

-- the entry is none of these files
abbrev pub is_other : List FileId → FolderEntry → Bool
is_other own entry = not (list_any (λ file. is_one file entry) own)

-- the whole tree returned the same, but that a listing has these files too
abbrev pub ObservesOthers : {T : Type 0} → (T → Observation → T → Type 0) → List FileId → T → Observation → T → Type 0
ObservesOthers observes own old (Listed path entries) new =
    (all : List FolderEntry) × (entries ≡ filter (is_other own) all) × observes old (Listed path all) new
ObservesOthers observes own old (Unlisted path) new = observes old (Unlisted path) new
ObservesOthers observes own old (Opened path) new = observes old (Opened path) new
ObservesOthers observes own old (Unopened path) new = observes old (Unopened path) new
ObservesOthers observes own old (Read path entry from wanted bytes) new =
    observes old (Read path entry from wanted bytes) new
ObservesOthers observes own old (Unread path entry from wanted) new = observes old (Unread path entry from wanted) new
ObservesOthers observes own old (Exchanged path entry from wanted) new =
    observes old (Exchanged path entry from wanted) new
