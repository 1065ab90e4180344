-- How a file of a tree is read for its hash, and how that may end early (this project's own).
use Rattle.std.specs.Prelude.{◌≡◌, ℕ, List, [], ◌++◌, length}
use Rattle.droid_frame.specs.Hashes.{hash}
use Rattle.droid_frame.specs.RunningHashes.{HoldsAll, running_kind}
use Rattle.droid_frame.specs.declared.hash_kind.HashKind.{HashKind}
use Rattle.droid_frame.specs.declared.running_hash.RunningHash.{RunningHash}
use Rattle.droid_frame.specs.declared.hash_value.HashValue.{HashValue}
use Rattle.droid_tree.specs.Observation.{Observation, Read}
use Rattle.droid_tree.specs.Reading.{IsStop, StopsAt}
use Rattle.droid_tree.specs.declared.folder_entry.FolderEntry.{FolderEntry}
use Rattle.droid_tree.specs.declared.skip_reason.Skipped.{Skipped}

-- these bytes were read from the beginning of the file on, piece by piece
pub data ReadsFront {T : Type 0} (observes : T → Observation → T → Type 0) (path : List ℕ) (entry : FolderEntry)
    (tree : T)
    : List ℕ → T → Type 0 where
  none : ReadsFront observes path entry tree [] tree
  piece : {bytes more : List ℕ} {middle tree_after : T} → ReadsFront observes path entry tree bytes middle
      → observes middle (Read path entry (length bytes) (length more) more) tree_after
      → ReadsFront observes path entry tree (bytes ++ more) tree_after

-- All bytes of the file were read, as many as it was listed with, and none stands behind them. This is their hash.
pub record HashesFile {T : Type 0} (observes : T → Observation → T → Type 0) (path : List ℕ) (entry : FolderEntry)
    (kind : HashKind) (value : HashValue) (tree tree_after : T) : Type 0 where
  pub bytes : List ℕ
  pub middle : T
  pub read : ReadsFront observes path entry tree bytes middle
  pub all : length bytes ≡ entry.len
  pub ended : observes middle (Read path entry entry.len 1 []) tree_after
  pub its : value ≡ hash kind bytes

-- some of its bytes were read, and then its next 65,536 or fewer could not be read, or it was not as it was listed
pub record StopsHashing {T : Type 0} (observes : T → Observation → T → Type 0) (path : List ℕ) (entry : FolderEntry)
    (why : Skipped) (tree tree_after : T) : Type 0 where
  pub bytes : List ℕ
  pub middle : T
  pub read : ReadsFront observes path entry tree bytes middle
  pub stops : StopsAt observes (IsStop 65536 entry.len (length bytes)) path entry (length bytes) why middle tree_after

-- ---- on the way

-- one piece of the file was read, and its bytes were added to the hash
pub record AddsPiece {T : Type 0} (observes : T → Observation → T → Type 0) (path : List ℕ) (entry : FolderEntry)
    (from wanted : ℕ) (old new : RunningHash) (tree tree_after : T) : Type 0 where
  pub bytes : List ℕ
  pub counted : length bytes ≡ wanted
  pub observed : observes tree (Read path entry from wanted bytes) tree_after
  pub holds : (before : List ℕ) → HoldsAll old before → HoldsAll new (before ++ bytes)
  pub kind : running_kind new ≡ running_kind old

-- the bytes before this offset were read, and the hash holds them
pub record HoldsFront {T : Type 0} (observes : T → Observation → T → Type 0) (path : List ℕ) (entry : FolderEntry)
    (kind : HashKind) (tree : T) (from : ℕ) (running : RunningHash) (tree_after : T) : Type 0 where
  pub bytes : List ℕ
  pub read : ReadsFront observes path entry tree bytes tree_after
  pub counted : length bytes ≡ from
  pub holds : HoldsAll running bytes
  pub its : running_kind running ≡ kind
