-- What the machine's file system may say, as far as it is known (this project's own).
use Rattle.std.specs.Prelude.{◌≡◌, ℕ, ◌≤◌, List, ◌++◌, length, Some, None}
use Rattle.std.specs.Fs.{IsDir, IsFile, IsSymlink, file_type, metadata_len}
use Rattle.std.specs.declared.fs.attrs.FileType.{FileType}
use Rattle.std.specs.declared.fs.attrs.Metadata.{Metadata}
use Rattle.droid_disk.specs.Said.{Said, Names, NoNames, FolderOpened, FolderNotOpened, Looked, Opened, NotOpened, Gave}
use Rattle.droid_disk.specs.Said.{GaveNone, Seen}
use Rattle.droid_disk.specs.declared.disk.FileMetadata.{FileMetadata}
use Rattle.droid_tree.specs.declared.folder_entry.EntryKind.{EntryKind}
use Rattle.droid_tree.specs.declared.folder_entry.EntryKind.TheVariants as kinds

-- a folder, a regular file, a symbolic link, or none of these
abbrev pub IsKindOf : FileType → EntryKind → Type 0
IsKindOf type kinds.Folder = IsDir type
IsKindOf type kinds.File = IsFile type
IsKindOf type kinds.Link = IsSymlink type
IsKindOf type kinds.Other = (IsDir type → ⊥) × (IsFile type → ⊥) × (IsSymlink type → ⊥)
IsKindOf type kinds.TooLong = ⊥

-- it has the type and the length of these metadata
abbrev pub IsMetadataOf : Metadata → FileMetadata → Type 0
IsMetadataOf metadata found = IsKindOf (file_type metadata) found.kind × (found.len ≡ metadata_len metadata)

-- it has the type and the length of some metadata
abbrev pub IsOfSome : FileMetadata → Type 0
IsOfSome found = (metadata : Metadata) × IsMetadataOf metadata found

-- the file system says of a path or of an open file what some metadata say, and returns at most the bytes asked for; of
-- its failures nothing is known
abbrev pub MaySay : Said → Type 0
MaySay (Names path names) = Unit {0}
MaySay (NoNames path) = Unit {0}
MaySay (FolderOpened path) = Unit {0}
MaySay (FolderNotOpened path) = Unit {0}
MaySay (Looked path None) = Unit {0}
MaySay (Looked path (Some found)) = IsOfSome found
MaySay (Opened path found) = IsOfSome found
MaySay (NotOpened path) = Unit {0}
MaySay (Gave path found from wanted bytes) = length bytes ≤ wanted
MaySay (GaveNone path found from wanted) = Unit {0}
MaySay (Seen path found None) = Unit {0}
MaySay (Seen path found (Some now)) = IsOfSome now

-- at most `wanted` bytes were appended
pub record AddsBytes (wanted : ℕ) (before after : List ℕ) : Type 0 where
  pub bytes : List ℕ
  pub added : after ≡ before ++ bytes
  pub within : length bytes ≤ wanted
