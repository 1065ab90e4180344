-- How one file is read, and how its reading ends (this project's own).
use Rattle.std.specs.Prelude.{◌≡◌, ℕ, ◌+◌, ◌<◌, ◌≤◌, Bool, true, false, List, [], ◌∷◌, ◌++◌, length}
use Rattle.std.specs.List.{flat_map}
use Rattle.droid_tree.specs.Observation.{Observation, Read, Unread, Exchanged}
use Rattle.droid_tree.specs.declared.folder_entry.FolderEntry.{FolderEntry}

-- The outcome of the last read. It returned fewer bytes than were asked for, so the file has ended: at the length that
-- its folder lists, or before. Or it returned bytes behind that length. Or the file could not be read, or was not as
-- its folder lists it. Or the last read is still to come.
pub data Ending : Type 0 where
  AtEnd : (wanted : ℕ) (bytes : List ℕ) → Ending
  TooShort : (wanted : ℕ) (bytes : List ℕ) → Ending
  TooLong : (wanted : ℕ) (bytes : List ℕ) → Ending
  NoneCame : (wanted : ℕ) → Ending
  OtherFile : (wanted : ℕ) → Ending
  NotYet : Ending

-- the reads before the last one, which returned as many bytes as were asked for, and the last one
pub record Reading : Type 0 where
  pub pieces : List (List ℕ)
  pub ending : Ending

-- nothing was read yet
abbrev pub unread : Reading
unread = record { pieces = []; ending = NotYet }

-- the bytes of these reads, joined
abbrev pub joined : List (List ℕ) → List ℕ
joined pieces = flat_map (λ (piece : List ℕ). piece) pieces

-- the bytes of the last read, if any came
abbrev pub last_bytes : Ending → List ℕ
last_bytes (AtEnd wanted bytes) = bytes
last_bytes (TooShort wanted bytes) = bytes
last_bytes (TooLong wanted bytes) = bytes
last_bytes _ = []

-- the bytes of the file, as they were read
abbrev pub bytes_of : Reading → List ℕ
bytes_of reading = joined reading.pieces ++ last_bytes reading.ending

-- ---- which readings there are

-- the reading of a file of this size may end like this at this offset
abbrev pub IsEnding : ℕ → ℕ → Ending → Type 0
IsEnding size from (AtEnd wanted bytes) = (length bytes < wanted) × (from + length bytes ≡ size)
IsEnding size from (TooShort wanted bytes) = (length bytes < wanted) × (from + length bytes < size)
IsEnding size from (TooLong wanted bytes) = (length bytes ≤ wanted) × (size < from + length bytes)
IsEnding size from (NoneCame wanted) = Unit {0}
IsEnding size from (OtherFile wanted) = Unit {0}
IsEnding size from NotYet = Unit {0}

-- the reads before the last one stay within the file
pub record IsReading (size : ℕ) (reading : Reading) : Type 0 where
  pub within : length (joined reading.pieces) ≤ size
  pub ending : IsEnding size (length (joined reading.pieces)) reading.ending

-- the last read is done
abbrev pub has_ended : Ending → Bool
has_ended NotYet = false
has_ended _ = true

-- the file is in the profile: all its bytes were read
abbrev pub is_whole : Ending → Bool
is_whole (AtEnd wanted bytes) = true
is_whole _ = false

-- ---- what the tree returned

-- one read after the other from this offset, each with all bytes that were asked for
abbrev pub reads_from : List ℕ → FolderEntry → ℕ → List (List ℕ) → List Observation
reads_from path entry from [] = []
reads_from path entry from (piece ∷ pieces) =
    Read path entry from (length piece) piece ∷ reads_from path entry (from + length piece) pieces

-- the last read, at this offset
abbrev pub last_read : List ℕ → FolderEntry → ℕ → Ending → List Observation
last_read path entry from (AtEnd wanted bytes) = Read path entry from wanted bytes ∷ []
last_read path entry from (TooShort wanted bytes) = Read path entry from wanted bytes ∷ []
last_read path entry from (TooLong wanted bytes) = Read path entry from wanted bytes ∷ []
last_read path entry from (NoneCame wanted) = Unread path entry from wanted ∷ []
last_read path entry from (OtherFile wanted) = Exchanged path entry from wanted ∷ []
last_read path entry from NotYet = []

-- all reads of the file, from its first byte on
abbrev pub reads_in : List ℕ → FolderEntry → Reading → List Observation
reads_in path entry reading =
    reads_from path entry 0 reading.pieces ++ last_read path entry (length (joined reading.pieces)) reading.ending
