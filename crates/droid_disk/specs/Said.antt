-- What a file system says (this project's own).
use Rattle.std.specs.Prelude.{ℕ, List, Option}
use Rattle.droid_disk.specs.declared.disk.FileMetadata.{FileMetadata}

-- what a call of a file system may say
pub data Said : Type 0 where
  -- the folder at this path has these names
  Names : (path : List ℕ) (names : List (List ℕ)) → Said
  -- the folder at this path could not be listed
  NoNames : (path : List ℕ) → Said
  -- the folder at this path was opened for listing
  FolderOpened : (path : List ℕ) → Said
  -- the folder at this path could not be opened for listing
  FolderNotOpened : (path : List ℕ) → Said
  -- the path has these metadata, or none could be read
  Looked : (path : List ℕ) (found : Option FileMetadata) → Said
  -- the file at this path was opened and has these metadata
  Opened : (path : List ℕ) (found : FileMetadata) → Said
  -- the file at this path could not be opened
  NotOpened : (path : List ℕ) → Said
  -- `wanted` bytes of the file that was opened by this path, and had these metadata then, were asked for from offset
  -- `from`, and these came
  Gave : (path : List ℕ) (found : FileMetadata) (from wanted : ℕ) (bytes : List ℕ) → Said
  -- `wanted` bytes of the file that was opened by this path, and had these metadata then, were asked for from offset
  -- `from`, and could not be read
  GaveNone : (path : List ℕ) (found : FileMetadata) (from wanted : ℕ) → Said
  -- the file that was opened by this path, and had these metadata then, has these now, or none could be read
  Seen : (path : List ℕ) (found : FileMetadata) (now : Option FileMetadata) → Said
