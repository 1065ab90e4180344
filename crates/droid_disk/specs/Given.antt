-- Bytes of an open file, and whether it is then as its folder lists it (this project's own).
use Rattle.std.specs.Prelude.{◌≡◌, ℕ, ◌≤◌, Bool, true, List, ◌++◌, length, Option, Some, IfSome, MatchBool}
use Rattle.droid_tree.specs.declared.folder_entry.FolderEntry.{FolderEntry}
use Rattle.droid_tree.specs.declared.folder_entry.EntryKind.TheVariants as kinds
use Rattle.droid_disk.specs.OpenFiles.{shows_end}
use Rattle.droid_disk.specs.Said.{Said, Gave, Seen}
use Rattle.droid_disk.specs.declared.disk.FileMetadata.{FileMetadata}

-- it is a regular file, and in the state in which its folder listed it as this entry
pub record IsAsListed (entry : FolderEntry) (found : FileMetadata) : Type 0 where
  pub kind : found.kind ≡ kinds.File
  pub device : found.device ≡ entry.device
  pub inode : found.inode ≡ entry.inode
  pub len : found.len ≡ entry.len
  pub modified : found.modified ≡ entry.modified
  pub modified_nanos : found.modified_nanos ≡ entry.modified_nanos
  pub changed : found.changed ≡ entry.changed
  pub changed_nanos : found.changed_nanos ≡ entry.changed_nanos

-- the file system returned bytes of an open file, and they were appended to the buffer
pub record Gives {D : Type 0} (says : D → Said → D → Type 0) (disk : D) (path : List ℕ) (found : FileMetadata)
    (from wanted : ℕ) (before after : List ℕ) (disk_after : D) : Type 0 where
  pub bytes : List ℕ
  pub added : after ≡ before ++ bytes
  pub within : length bytes ≤ wanted
  pub said : says disk (Gave path found from wanted bytes) disk_after

-- the open file was looked at once more, and is as its folder lists it
pub record SeesSame {D : Type 0} (says : D → Said → D → Type 0) (path : List ℕ) (entry : FolderEntry)
    (found : FileMetadata) (disk disk_after : D) : Type 0 where
  pub now : FileMetadata
  pub seen : says disk (Seen path found (Some now)) disk_after
  pub same : IsAsListed entry now

-- bytes of an open file came; where they show its end, it was then looked at once more, and is as its folder lists it
pub record ReadsOn {D : Type 0} (says : D → Said → D → Type 0) (path : List ℕ) (found : FileMetadata)
    (entry : FolderEntry) (from wanted : ℕ) (before after : List ℕ) (ended : Bool) (disk disk_after : D) : Type 0 where
  pub bytes : List ℕ
  pub added : after ≡ before ++ bytes
  pub within : length bytes ≤ wanted
  pub disk_read : D
  pub gave : says disk (Gave path found from wanted bytes) disk_read
  pub is_end : ended ≡ shows_end entry.len from wanted (length bytes)
  pub seen : MatchBool ended (SeesSame says path entry found disk_read disk_after) (disk_after ≡ disk_read)

-- bytes of an open file came that show its end, and it is then not as its folder lists it, or that can't be seen
pub record EndsAsOther {D : Type 0} (says : D → Said → D → Type 0) (path : List ℕ) (found : FileMetadata)
    (entry : FolderEntry) (from wanted : ℕ) (disk disk_after : D) : Type 0 where
  pub bytes : List ℕ
  pub disk_read : D
  pub gave : says disk (Gave path found from wanted bytes) disk_read
  pub is_end : shows_end entry.len from wanted (length bytes) ≡ true
  pub now : Option FileMetadata
  pub seen : says disk_read (Seen path found now) disk_after
  pub other : IfSome now (λ it. IsAsListed entry it → ⊥)
