-- How the first and last bytes of a file are read, and how that may end early (this project's own).
use Rattle.std.specs.Prelude.{◌≡◌, ◌≢◌, ◌⊎◌, ℕ, ◌+◌, ◌-◌, ◌<◌, ◌≤◌, Bool, true, false, List, ◌++◌, length}
use Rattle.droid_pronom.specs.Registry.{Contents}
use Rattle.droid_identity.specs.Matches.{AreEnds}
use Rattle.droid_identity.specs.Identities.{IsIdentity}
use Rattle.droid_identity.specs.declared.identity.Identity.{Identity}
use Rattle.droid_tree.specs.Observation.{Observation, Read}
use Rattle.droid_tree.specs.Reading.{Stop, NoneCame, FewerCame, MoreCame, OtherFile, IsShort, StopsAt}
use Rattle.droid_tree.specs.declared.folder_entry.FolderEntry.{FolderEntry}
use Rattle.droid_tree.specs.declared.skip_reason.Skipped.{Skipped}
use Rattle.droid_cmd_identify.specs.declared.ends.FileEnds.{FileEnds}
use Rattle.droid_cmd_identify.specs.declared.file.FileOptions.{FileOptions}
use Rattle.droid_cmd_identify.specs.declared.file.TreeFile.{TreeFile}

-- the last bytes, by whether the file is longer than the first ones: of a file that is not these are the last ones too
abbrev pub last_by : Bool → (first rest : List ℕ) → List ℕ
last_by true first rest = rest
last_by false first rest = first

-- the last bytes of a file of these ends
abbrev pub last_of : FileEnds → List ℕ
last_of ends = last_by ends.goes_on ends.first.items ends.rest.items

-- All bytes of a file were read: one more was asked for, so none stands behind them.
pub record ReadsAll {T : Type 0} (observes : T → Observation → T → Type 0) (path : List ℕ) (entry : FolderEntry)
    (limit : ℕ) (first : List ℕ) (tree tree_after : T) : Type 0 where
  pub fits : entry.len ≤ limit
  pub count : length first ≡ entry.len
  pub observed : observes tree (Read path entry 0 (entry.len + 1) first) tree_after

-- The first bytes and the last bytes of a longer file were read: one more was asked for, so none stands behind them.
pub record ReadsTwo {T : Type 0} (observes : T → Observation → T → Type 0) (path : List ℕ) (entry : FolderEntry)
    (limit : ℕ) (first rest : List ℕ) (tree tree_after : T) : Type 0 where
  pub longer : limit < entry.len
  pub count : length first ≡ limit
  pub middle : T
  pub begins : observes tree (Read path entry 0 limit first) middle
  pub same : length rest ≡ limit
  pub ends : observes middle (Read path entry (entry.len - limit) (limit + 1) rest) tree_after

-- the ends were read, by whether the file is longer than the limit
abbrev pub ReadsBoth : {T : Type 0} → (T → Observation → T → Type 0) → List ℕ → FolderEntry → ℕ → Bool
    → (first rest : List ℕ) → T → T → Type 0
ReadsBoth observes path entry limit true first rest tree tree_after = ReadsTwo observes path entry limit first rest tree
    tree_after
ReadsBoth observes path entry limit false first rest tree tree_after = ReadsAll observes path entry limit first tree
    tree_after

-- the ends of a file were read
abbrev pub ReadsEnds : {T : Type 0} → (T → Observation → T → Type 0) → List ℕ → FolderEntry → ℕ → FileEnds → T → T
    → Type 0
ReadsEnds observes path entry limit ends tree tree_after =
    ReadsBoth observes path entry limit ends.goes_on ends.first.items ends.rest.items tree tree_after

-- `count` bytes and one more were asked for: none could be read, or fewer than `count` came, or all, or the file was
-- not as its folder lists it
abbrev pub IsNotToEnd : ℕ → Stop → Type 0
IsNotToEnd count (NoneCame n) = n ≡ count + 1
IsNotToEnd count (FewerCame n bytes) = (n ≡ count + 1) × (length bytes ≢ count)
IsNotToEnd count (MoreCame bytes) = ⊥
IsNotToEnd count (OtherFile n) = n ≡ count + 1

-- the bytes of a file that is not longer than the limit could not be read, or are fewer, or go on
pub record StopsInAll {T : Type 0} (observes : T → Observation → T → Type 0) (path : List ℕ) (entry : FolderEntry)
    (limit : ℕ) (why : Skipped) (tree tree_after : T) : Type 0 where
  pub fits : entry.len ≤ limit
  pub stops : StopsAt observes (IsNotToEnd entry.len) path entry 0 why tree tree_after

-- the first bytes of a longer file could not be read, or fewer came
pub record StopsAtFirst {T : Type 0} (observes : T → Observation → T → Type 0) (path : List ℕ) (entry : FolderEntry)
    (limit : ℕ) (why : Skipped) (tree tree_after : T) : Type 0 where
  pub longer : limit < entry.len
  pub stops : StopsAt observes (IsShort limit) path entry 0 why tree tree_after

-- the last bytes of a longer file could not be read, or are fewer, or go on
pub record StopsAtLast {T : Type 0} (observes : T → Observation → T → Type 0) (path : List ℕ) (entry : FolderEntry)
    (limit : ℕ) (why : Skipped) (tree tree_after : T) : Type 0 where
  pub longer : limit < entry.len
  pub first : List ℕ
  pub count : length first ≡ limit
  pub middle : T
  pub begins : observes tree (Read path entry 0 limit first) middle
  pub stops : StopsAt observes (IsNotToEnd limit) path entry (entry.len - limit) why middle tree_after

-- the reading of the ends stopped for this reason, in one of these three ways
abbrev pub StopsInEnds : {T : Type 0} → (T → Observation → T → Type 0) → List ℕ → FolderEntry → ℕ → Skipped → T → T
    → Type 0
StopsInEnds observes path entry limit why tree tree_after =
    StopsInAll observes path entry limit why tree tree_after
    ⊎ (StopsAtFirst observes path entry limit why tree tree_after ⊎ StopsAtLast observes path entry limit why tree
    tree_after)

-- The ends of a file were read, and this is what is said of every file of its length with these ends.
pub record Identifies {T : Type 0} (observes : T → Observation → T → Type 0) (registry : Contents)
    (options : FileOptions) (file : TreeFile) (ends : FileEnds) (identity : Identity) (tree tree_after : T) : Type 0
  where
    pub read : ReadsEnds observes file.path.now file.listed.now options.limit ends tree tree_after
    pub its : (bytes : List ℕ) → length bytes ≡ file.listed.now.len
        → AreEnds bytes options.limit ends.first.items (last_of ends)
        → IsIdentity registry file.name.now bytes options.limit options.match_all identity

-- ---- on the way

-- `count` bytes from offset `from` to the file's end were read and appended to the buffer
pub record ReadsToEnd {T : Type 0} (observes : T → Observation → T → Type 0) (path : List ℕ) (entry : FolderEntry)
    (from count : ℕ) (before after : List ℕ) (tree tree_after : T) : Type 0 where
  pub bytes : List ℕ
  pub counted : length bytes ≡ count
  pub added : after ≡ before ++ bytes
  pub observed : observes tree (Read path entry from (count + 1) bytes) tree_after
