-- What a tree returns when it is read (this project's own). Each read names the entry as the folder listed it.
use Rattle.std.specs.Prelude.{◌≡◌, ℕ, ◌≤◌, List, [], ◌∷◌, ◌++◌, length}
use Rattle.droid_tree.specs.declared.folder_entry.FolderEntry.{FolderEntry}

-- what a call of a tree may say
pub data Observation : Type 0 where
  -- the folder has these entries
  Listed : (path : List ℕ) (entries : List FolderEntry) → Observation
  -- the folder could not be read
  Unlisted : (path : List ℕ) → Observation
  -- the folder can be listed now
  Opened : (path : List ℕ) → Observation
  -- the folder could not be opened for listing
  Unopened : (path : List ℕ) → Observation
  -- `wanted` bytes of the file were asked for from offset `from`, and these came. Fewer came only where the file ends;
  -- then it was looked at once more, and it was still as its folder lists it.
  Read : (path : List ℕ) (entry : FolderEntry) (from wanted : ℕ) (bytes : List ℕ) → Observation
  -- `wanted` bytes of the file were asked for from offset `from`, and could not be read
  Unread : (path : List ℕ) (entry : FolderEntry) (from wanted : ℕ) → Observation
  -- `wanted` bytes of the file were asked for from offset `from`, and it was not as its folder lists it: another file
  -- was at its path, or it was changed since
  Exchanged : (path : List ℕ) (entry : FolderEntry) (from wanted : ℕ) → Observation

-- the tree returned bytes of a file, and they were appended to the buffer
pub record BytesCame {T : Type 0} (observes : T → Observation → T → Type 0) (tree : T) (path : List ℕ)
    (entry : FolderEntry) (from wanted : ℕ) (before after : List ℕ) (tree_after : T) : Type 0 where
  pub bytes : List ℕ
  pub added : after ≡ before ++ bytes
  pub within : length bytes ≤ wanted
  pub observed : observes tree (Read path entry from wanted bytes) tree_after

-- a list of steps, each from the state that the step before left
abbrev pub GoesOver : {S A : Type 0} → (S → A → S → Type 0) → S → List A → S → Type 0
GoesOver {S} {A} step first [] last = last ≡ first
GoesOver {S} {A} step first (item ∷ items) last =
    (middle : S) × step first item middle × GoesOver step middle items last
