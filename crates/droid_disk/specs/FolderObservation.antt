-- What a folder of a file system returns as a tree (this project's own).
use Rattle.std.specs.Prelude.{◌≡◌, ◌≢◌, ◌⊎◌, ℕ, ◌+◌, ◌<◌, Bool, true, false, ◌&&◌, nat_lt, cond, List, [], ◌∷◌, ◌++◌}
use Rattle.std.specs.Prelude.{length, map, Option, Some, None, MatchBool}
use Rattle.std.specs.Str.{IsUtf8, is_utf8}
use Rattle.droid_tree.specs.Observation as tree
use Rattle.droid_tree.specs.Observation.{GoesOver}
use Rattle.droid_tree.specs.Paths.{below}
use Rattle.droid_tree.specs.declared.folder_entry.FolderEntry.{FolderEntry}
use Rattle.droid_tree.specs.declared.folder_entry.EntryKind.{EntryKind}
use Rattle.droid_tree.specs.declared.folder_entry.EntryKind.TheVariants as kinds
use Rattle.droid_disk.specs.Given.{IsAsListed, SeesSame, EndsAsOther}
use Rattle.droid_disk.specs.OpenFiles.{held, without, with_room, shows_end, Unseen}
use Rattle.droid_disk.specs.Said.{Said, Names, NoNames, FolderOpened, FolderNotOpened, Looked, Opened, NotOpened, Gave}
use Rattle.droid_disk.specs.Said.{GaveNone}
use Rattle.droid_disk.specs.declared.disk.FileMetadata.{FileMetadata}

-- ---- the entries of a folder

-- with the zero byte behind it the path of this name in the folder has more than 4,096 bytes, which no call of the
-- system takes
abbrev pub is_too_long : List ℕ → List ℕ → Bool
is_too_long folder name = nat_lt 4096 (length (below folder name) + 1)

-- what an entry is of which no metadata were found
abbrev pub kind_unseen : List ℕ → List ℕ → EntryKind
kind_unseen folder name = cond (is_utf8 name && is_too_long folder name) kinds.TooLong kinds.Other

-- an entry in this folder has the metadata that were found; without metadata it is neither a folder nor a file
abbrev pub Shows : List ℕ → Option FileMetadata → FolderEntry → Type 0
Shows folder (Some found) entry =
    (entry.kind ≡ found.kind) × (entry.modified ≡ found.modified) × (entry.modified_nanos ≡ found.modified_nanos)
    × (entry.changed ≡ found.changed) × (entry.changed_nanos ≡ found.changed_nanos) × (entry.len ≡ found.len)
    × (entry.device ≡ found.device) × (entry.inode ≡ found.inode)
Shows folder None entry = entry.kind ≡ kind_unseen folder entry.name

-- the file system was asked for the metadata of a name that is UTF-8 and not too long; of another name nothing was
-- asked
abbrev pub SaysOfText : {D : Type 0} → (D → Said → D → Type 0) → List ℕ → List ℕ → Option FileMetadata → D → D → Type 0
SaysOfText says folder name found disk disk_after =
    ((is_too_long folder name ≡ false) × says disk (Looked (below folder name) found) disk_after)
    ⊎ (((IsUtf8 name → ⊥) ⊎ (is_too_long folder name ≡ true)) × (found ≡ None) × (disk_after ≡ disk))

-- an entry is what the file system said of its name
abbrev pub LooksAt : {D : Type 0} → (D → Said → D → Type 0) → List ℕ → D → FolderEntry → D → Type 0
LooksAt says folder disk entry disk_after =
    (found : Option FileMetadata) × SaysOfText says folder entry.name found disk disk_after × Shows folder found entry

-- the folder at this path is listed, and then each entry's metadata are read, in the order of the names
pub record ListsAll {D : Type 0} (says : D → Said → D → Type 0) (path folder : List ℕ) (entries : List FolderEntry)
    (disk disk_after : D) : Type 0 where
  pub middle : D
  pub names : says disk (Names path (map (λ entry. entry.name) entries)) middle
  pub looks : GoesOver (LooksAt says folder) middle entries disk_after

-- ---- the bytes of a file

-- what is at this path is as its folder lists it, and so is the file that was opened
pub record OpensAt {D : Type 0} (says : D → Said → D → Type 0) (path : List ℕ) (entry : FolderEntry)
    (found : FileMetadata) (disk disk_after : D) : Type 0 where
  pub there : FileMetadata
  pub is_there : IsAsListed entry there
  pub middle : D
  pub looked : says disk (Looked path (Some there)) middle
  pub opened : says middle (Opened path found) disk_after
  pub is_found : IsAsListed entry found

-- something is at this path that is no regular file, and it was not opened
pub record FindsNoFile {D : Type 0} (says : D → Said → D → Type 0) (path : List ℕ) (disk disk_after : D) : Type 0 where
  pub there : FileMetadata
  pub looked : says disk (Looked path (Some there)) disk_after
  pub kind : there.kind ≢ kinds.File

-- what is at this path is as its folder lists it, and it can't be opened
pub record OpenFails {D : Type 0} (says : D → Said → D → Type 0) (path : List ℕ) (entry : FolderEntry)
    (disk disk_after : D) : Type 0 where
  pub there : FileMetadata
  pub is_there : IsAsListed entry there
  pub middle : D
  pub looked : says disk (Looked path (Some there)) middle
  pub failed : says middle (NotOpened path) disk_after

-- no file could be opened by this path: nothing was found, or no regular file, which is then not opened (a pipe would
-- wait for ever, a device may do anything); or the file can't be opened
abbrev pub OpensNone : {D : Type 0} → (D → Said → D → Type 0) → List ℕ → FolderEntry → D → D → Type 0
OpensNone says path entry disk disk_after =
    says disk (Looked path None) disk_after
    ⊎ (FindsNoFile says path disk disk_after ⊎ OpenFails says path entry disk disk_after)

-- a regular file is at this path that is not as its folder lists it, and it was not opened
pub record FindsOther {D : Type 0} (says : D → Said → D → Type 0) (path : List ℕ) (entry : FolderEntry)
    (disk disk_after : D) : Type 0 where
  pub there : FileMetadata
  pub looked : says disk (Looked path (Some there)) disk_after
  pub is_file : there.kind ≡ kinds.File
  pub other : IsAsListed entry there → ⊥

-- what is at this path is as its folder lists it, and what was opened is not
pub record OpensOther {D : Type 0} (says : D → Said → D → Type 0) (path : List ℕ) (entry : FolderEntry)
    (disk disk_after : D) : Type 0 where
  pub there : FileMetadata
  pub is_there : IsAsListed entry there
  pub found : FileMetadata
  pub middle : D
  pub looked : says disk (Looked path (Some there)) middle
  pub opened : says middle (Opened path found) disk_after
  pub other : IsAsListed entry found → ⊥

-- A read at offset 0 opens the file, and closes what was open by this path.
pub record Begins {D F : Type 0} (says : D → Said → D → Type 0) (path_of : F → List ℕ) (metadata_of : F → FileMetadata)
    (path : List ℕ) (entry : FolderEntry) (from : ℕ) (files files_now : List F) (file : F) (disk disk_now : D)
    : Type 0 where
  pub first : from ≡ 0
  pub opened_by : path_of file ≡ path
  pub opens : OpensAt says path entry (metadata_of file) disk disk_now
  pub kept : files_now ≡ with_room (without path_of path files) ++ file ∷ []

-- Any other read goes on in the file that is open by this path, and opens nothing.
pub record GoesOn {D F : Type 0} (says : D → Said → D → Type 0) (path_of : F → List ℕ) (metadata_of : F → FileMetadata)
    (path : List ℕ) (entry : FolderEntry) (from : ℕ) (files files_now : List F) (file : F) (disk disk_now : D)
    : Type 0 where
  pub later : 0 < from
  pub is_open : held path_of path files ≡ Some file
  pub same : IsAsListed entry (metadata_of file)
  pub kept : files_now ≡ files
  pub unasked : disk_now ≡ disk

-- the file that a read goes to: the one that it opens, or the one that is open by this path
abbrev pub Reaches : {D F : Type 0} → (D → Said → D → Type 0) → (F → List ℕ) → (F → FileMetadata) → List ℕ → FolderEntry
    → ℕ → List F → List F → F → D → D → Type 0
Reaches says path_of metadata_of path entry from files files_now file disk disk_now =
    Begins says path_of metadata_of path entry from files files_now file disk disk_now
    ⊎ GoesOn says path_of metadata_of path entry from files files_now file disk disk_now

-- The file that the read goes to returned these bytes. Where they show its end, it was then looked at once more, is
-- still as its folder lists it, and was closed; else it stays open.
pub record ReadsAt {D F : Type 0} (says : D → Said → D → Type 0) (path_of : F → List ℕ) (metadata_of : F → FileMetadata)
    (path : List ℕ) (entry : FolderEntry) (from wanted : ℕ) (bytes : List ℕ) (files files_after : List F)
    (disk disk_after : D) : Type 0 where
  pub files_now : List F
  pub file : F
  pub disk_now : D
  pub reached : Reaches says path_of metadata_of path entry from files files_now file disk disk_now
  pub disk_read : D
  pub gave : says disk_now (Gave path (metadata_of file) from wanted bytes) disk_read
  pub after : MatchBool (shows_end entry.len from wanted (length bytes))
      (SeesSame says path entry (metadata_of file) disk_read disk_after
      × (files_after ≡ without path_of path files_now))
      ((disk_after ≡ disk_read) × (files_after ≡ files_now))

-- the file that the read goes to could not be read, and was closed
pub record ReadFails {D F : Type 0} (says : D → Said → D → Type 0) (path_of : F → List ℕ)
    (metadata_of : F → FileMetadata) (path : List ℕ) (entry : FolderEntry) (from wanted : ℕ)
    (files files_after : List F) (disk disk_after : D) : Type 0 where
  pub files_now : List F
  pub file : F
  pub disk_now : D
  pub reached : Reaches says path_of metadata_of path entry from files files_now file disk disk_now
  pub failed : says disk_now (GaveNone path (metadata_of file) from wanted) disk_after
  pub closed : files_after ≡ without path_of path files_now

-- the file was read to its end, and is then not as its folder lists it, or that can't be seen; it was closed
pub record EndsOther {D F : Type 0} (says : D → Said → D → Type 0) (path_of : F → List ℕ)
    (metadata_of : F → FileMetadata) (path : List ℕ) (entry : FolderEntry) (from wanted : ℕ)
    (files files_after : List F) (disk disk_after : D) : Type 0 where
  pub files_now : List F
  pub file : F
  pub disk_now : D
  pub reached : Reaches says path_of metadata_of path entry from files files_now file disk disk_now
  pub ends : EndsAsOther says path (metadata_of file) entry from wanted disk_now disk_after
  pub closed : files_after ≡ without path_of path files_now

-- a read that does not begin a file found none that is open by this path; nothing was asked of the file system
pub record NotBegun {D F : Type 0} (says : D → Said → D → Type 0) (path_of : F → List ℕ) (path : List ℕ) (from : ℕ)
    (files files_after : List F) (disk disk_after : D) : Type 0 where
  pub later : 0 < from
  pub none : held path_of path files ≡ None
  pub kept : files_after ≡ files
  pub unseen : Unseen says disk disk_after

-- the file that is open by this path was not listed as this entry; nothing was asked of the file system
pub record IsOfOther {D F : Type 0} (says : D → Said → D → Type 0) (path_of : F → List ℕ)
    (metadata_of : F → FileMetadata) (path : List ℕ) (entry : FolderEntry) (from : ℕ) (files files_after : List F)
    (disk disk_after : D) : Type 0 where
  pub later : 0 < from
  pub file : F
  pub is_open : held path_of path files ≡ Some file
  pub other : IsAsListed entry (metadata_of file) → ⊥
  pub kept : files_after ≡ files
  pub unseen : Unseen says disk disk_after

-- it was to be opened, and what was open by this path was closed
abbrev pub IsMadeRoom : {F : Type 0} → (F → List ℕ) → List ℕ → ℕ → List F → List F → Type 0
IsMadeRoom path_of path from files files_after = (from ≡ 0) × (files_after ≡ with_room (without path_of path files))

-- no file could be opened by this path, or none is open by it
abbrev pub IsUnopened : {D F : Type 0} → (D → Said → D → Type 0) → (F → List ℕ) → List ℕ → FolderEntry → ℕ → List F
    → List F → D → D → Type 0
IsUnopened says path_of path entry from files files_after disk disk_after =
    (IsMadeRoom path_of path from files files_after × OpensNone says path entry disk disk_after)
    ⊎ NotBegun says path_of path from files files_after disk disk_after

-- what is at this path is not as its folder lists it, or was not when it was opened, or the open file is that of
-- another entry
abbrev pub IsNotListed : {D F : Type 0} → (D → Said → D → Type 0) → (F → List ℕ) → (F → FileMetadata) → List ℕ
    → FolderEntry → ℕ → List F → List F → D → D → Type 0
IsNotListed says path_of metadata_of path entry from files files_after disk disk_after =
    (IsMadeRoom path_of path from files files_after
    × (FindsOther says path entry disk disk_after ⊎ OpensOther says path entry disk disk_after))
    ⊎ IsOfOther says path_of metadata_of path entry from files files_after disk disk_after

-- the file could not be opened, or not be read
abbrev pub IsUnread : {D F : Type 0} → (D → Said → D → Type 0) → (F → List ℕ) → (F → FileMetadata) → List ℕ
    → FolderEntry → ℕ → ℕ → List F → List F → D → D → Type 0
IsUnread says path_of metadata_of path entry from wanted files files_after disk disk_after =
    IsUnopened says path_of path entry from files files_after disk disk_after
    ⊎ ReadFails says path_of metadata_of path entry from wanted files files_after disk disk_after

-- another file is at this path than the entry's, or it was changed: before it was opened, or until its end
abbrev pub IsExchanged : {D F : Type 0} → (D → Said → D → Type 0) → (F → List ℕ) → (F → FileMetadata) → List ℕ
    → FolderEntry → ℕ → ℕ → List F → List F → D → D → Type 0
IsExchanged says path_of metadata_of path entry from wanted files files_after disk disk_after =
    IsNotListed says path_of metadata_of path entry from files files_after disk disk_after
    ⊎ EndsOther says path_of metadata_of path entry from wanted files files_after disk disk_after

-- ---- the tree

-- the path by which a folder is listed; that of the top ends in a slash, so that the top may be a link
abbrev pub folder_path : List ℕ → List ℕ → List ℕ
folder_path top [] = top ++ 47 ∷ []
folder_path top path = top ++ path

-- What the folder at the path `top`, of which these files are open, returns as a tree. It reports a folder or a file as
-- unreadable only if the file system failed or no regular file is there or open, and a file as exchanged only if it was
-- not as its folder lists it. Only the reading of files opens or closes any.
abbrev pub ObservesBelow : {D F : Type 0} → (D → Said → D → Type 0) → (F → List ℕ) → (F → FileMetadata) → List ℕ
    → List F → D → tree.Observation → List F → D → Type 0
ObservesBelow says path_of metadata_of top files disk (tree.Listed path entries) files_after disk_after =
    ListsAll says (folder_path top path) (top ++ path) entries disk disk_after × (files_after ≡ files)
ObservesBelow says path_of metadata_of top files disk (tree.Unlisted path) files_after disk_after =
    says disk (NoNames (folder_path top path)) disk_after × (files_after ≡ files)
ObservesBelow says path_of metadata_of top files disk (tree.Opened path) files_after disk_after =
    says disk (FolderOpened (folder_path top path)) disk_after × (files_after ≡ files)
ObservesBelow says path_of metadata_of top files disk (tree.Unopened path) files_after disk_after =
    says disk (FolderNotOpened (folder_path top path)) disk_after × (files_after ≡ files)
ObservesBelow says path_of metadata_of top files disk (tree.Read path entry from wanted bytes) files_after disk_after =
    ReadsAt says path_of metadata_of (top ++ path) entry from wanted bytes files files_after disk disk_after
ObservesBelow says path_of metadata_of top files disk (tree.Unread path entry from wanted) files_after disk_after =
    IsUnread says path_of metadata_of (top ++ path) entry from wanted files files_after disk disk_after
ObservesBelow says path_of metadata_of top files disk (tree.Exchanged path entry from wanted) files_after disk_after =
    IsExchanged says path_of metadata_of (top ++ path) entry from wanted files files_after disk disk_after
