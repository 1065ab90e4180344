-- How a file is read, piece by piece, and how its reading may end early (this project's own).
use Rattle.std.specs.Prelude.{◌≡◌, ◌⊎◌, ℕ, ◌-◌, ◌*◌, ◌<◌, min, List, ◌++◌, length}
use Rattle.droid_tree.specs.Observation.{Observation, Read, Unread, Exchanged}
use Rattle.droid_tree.specs.declared.fault.TreeFault.{TreeFault}
use Rattle.droid_tree.specs.declared.fault.TreeFault.TheVariants as faults
use Rattle.droid_tree.specs.declared.folder_entry.FolderEntry.{FolderEntry}
use Rattle.droid_tree.specs.declared.skip_reason.Skipped.{Skipped}
use Rattle.droid_tree.specs.declared.skip_reason.Skipped.TheVariants as reasons

-- why the reading of a file ended early: `wanted` bytes could not be read, or fewer came, or the file has more bytes
-- than its folder lists, or it was not as its folder lists it when `wanted` bytes were asked for
pub data Stop : Type 0 where
  NoneCame : (wanted : ℕ) → Stop
  FewerCame : (wanted : ℕ) (bytes : List ℕ) → Stop
  MoreCame : (bytes : List ℕ) → Stop
  OtherFile : (wanted : ℕ) → Stop

-- the reason that the watcher gets
abbrev pub reason_of : Stop → Skipped
reason_of (NoneCame wanted) = reasons.Unreadable
reason_of (FewerCame wanted bytes) = reasons.Changed
reason_of (MoreCame bytes) = reasons.Changed
reason_of (OtherFile wanted) = reasons.Changed

-- the next read fails, or returns too few bytes, or returns bytes behind the file's end, or finds it not as its folder
-- lists it
abbrev pub observed_of_stop : List ℕ → FolderEntry → ℕ → Stop → Observation
observed_of_stop path entry from (NoneCame wanted) = Unread path entry from wanted
observed_of_stop path entry from (FewerCame wanted bytes) = Read path entry from wanted bytes
observed_of_stop path entry from (MoreCame bytes) = Read path entry from 1 bytes
observed_of_stop path entry from (OtherFile wanted) = Exchanged path entry from wanted

-- the offset at which this piece begins, at most the file's length
abbrev pub begin_of : ℕ → ℕ → ℕ → ℕ
begin_of piece_size size index = min (index * piece_size) size

-- the next read asks for a piece; or for one byte, to see that the file has ended
abbrev pub IsRequested : ℕ → ℕ → ℕ → ℕ → Type 0
IsRequested piece_size size from wanted =
    ((from < size) × (wanted ≡ min piece_size (size - from))) ⊎ ((from ≡ size) × (wanted ≡ 1))

-- the reading may end at this offset in this way
abbrev pub IsStop : ℕ → ℕ → ℕ → Stop → Type 0
IsStop piece_size size from (NoneCame wanted) = IsRequested piece_size size from wanted
IsStop piece_size size from (FewerCame wanted bytes) =
    (from < size) × (wanted ≡ min piece_size (size - from)) × (length bytes < wanted)
IsStop piece_size size from (MoreCame bytes) = (from ≡ size) × (0 < length bytes)
IsStop piece_size size from (OtherFile wanted) = IsRequested piece_size size from wanted

-- of the bytes of a piece none could be read, or too few came, or the file was not as its folder lists it
abbrev pub IsShort : ℕ → Stop → Type 0
IsShort wanted (NoneCame n) = n ≡ wanted
IsShort wanted (FewerCame n bytes) = (n ≡ wanted) × (length bytes < wanted)
IsShort wanted (MoreCame bytes) = ⊥
IsShort wanted (OtherFile n) = n ≡ wanted

-- the byte behind the file's end could not be read, or came, or the file was not as its folder lists it
abbrev pub IsPastEnd : Stop → Type 0
IsPastEnd (NoneCame n) = n ≡ 1
IsPastEnd (FewerCame n bytes) = ⊥
IsPastEnd (MoreCame bytes) = 0 < length bytes
IsPastEnd (OtherFile n) = n ≡ 1

-- `wanted` bytes were read from offset `from` and appended to the buffer
pub record ReadsPiece {T : Type 0} (observes : T → Observation → T → Type 0) (path : List ℕ) (entry : FolderEntry)
    (from wanted : ℕ) (before after : List ℕ) (tree tree_after : T) : Type 0 where
  pub bytes : List ℕ
  pub counted : length bytes ≡ wanted
  pub added : after ≡ before ++ bytes
  pub observed : observes tree (Read path entry from wanted bytes) tree_after

-- the reading of a file ended early at this offset, for this reason
pub record StopsAt {T : Type 0} (observes : T → Observation → T → Type 0) (IsSuch : Stop → Type 0) (path : List ℕ)
    (entry : FolderEntry) (from : ℕ) (why : Skipped) (tree tree_after : T) : Type 0 where
  pub stop : Stop
  pub such : IsSuch stop
  pub reason : why ≡ reason_of stop
  pub observed : observes tree (observed_of_stop path entry from stop) tree_after

-- a file is skipped for this reason if the tree returns this fault; running out of memory is no reason
abbrev pub IsReason : TreeFault → Skipped → Type 0
IsReason faults.Memory why = ⊥
IsReason faults.Unreadable why = why ≡ reasons.Unreadable
IsReason faults.Changed why = why ≡ reasons.Changed
