-- What a lane reads.
use Rattle.std.specs.Prelude.{◌≡◌, ◌⊎◌, ℕ, ◌+◌, ◌≤◌, true, false, List, [], ◌++◌, length, drop}
use Rattle.std.specs.List.{flat_map}
use Rattle.droid_hash.specs.Ends.{Came}
use Rattle.droid_tree.specs.Heard.{Heard, TookBytes}
use Rattle.droid_tree.specs.Observation.{Observation, Read, GoesOver}
use Rattle.droid_tree.specs.declared.folder_entry.FolderEntry.{FolderEntry}
use Rattle.droid_tree.specs.declared.skip_reason.Skipped.{Skipped}
use Rattle.droid_tree.specs.declared.skip_reason.Skipped.TheVariants as reasons
use Rattle.droid_profile.specs.Calls.{heard_of_observation}
use Rattle.droid_profile.specs.Readings.{Ending, AtEnd, TooShort, TooLong, IsEnding, last_read}
use Rattle.droid_profile.specs.BatchFits.{IsDropped}
use Rattle.droid_profile.specs.declared.lanes.file_lane.FileLane.{FileLane}
use Rattle.droid_profile.specs.declared.lanes.lane_reader.Came.{Came as Outcome}
use Rattle.droid_profile.specs.declared.lanes.lane_reader.Came.TheVariants as outcomes

-- the lane got these bytes of its file, which follow upon those before
pub record GetsBytes (old new : FileLane) (bytes : List ℕ) : Type 0 where
  pub busy : new.busy ≡ old.busy
  pub its : new.place ≡ old.place
  pub from : new.from ≡ old.from + length bytes
  pub buffer : new.buffer.items ≡ bytes
  pub hashed : new.hashed ≡ 0
  pub came : (before : List ℕ) → Came old.ends before → Came new.ends (before ++ bytes)
  pub size : new.ends.size ≡ old.ends.size
  pub limit : new.ends.limit ≡ old.ends.limit

-- all that was asked for came, and the file goes on
pub record ReadsPiece {T W : Type 0} (observes : T → Observation → T → Type 0) (hears : W → Heard → W → Type 0)
    (path : List ℕ) (entry : FolderEntry) (old new : FileLane) (tree tree_after : T) (watcher watcher_after : W)
    : Type 0 where
  pub bytes : List ℕ
  pub within : old.from + length bytes ≤ entry.len
  pub observed : observes tree (Read path entry old.from (length bytes) bytes) tree_after
  pub heard : hears watcher (TookBytes path (length bytes)) watcher_after
  pub gets : GetsBytes old new bytes
  pub goes_on : new.at_end ≡ false

-- the last bytes of the file came
pub record ReadsLast {T W : Type 0} (observes : T → Observation → T → Type 0) (hears : W → Heard → W → Type 0)
    (path : List ℕ) (entry : FolderEntry) (old new : FileLane) (tree tree_after : T) (watcher watcher_after : W)
    : Type 0 where
  pub bytes : List ℕ
  pub wanted : ℕ
  pub ending : IsEnding entry.len old.from (AtEnd wanted bytes)
  pub observed : observes tree (Read path entry old.from wanted bytes) tree_after
  pub heard : hears watcher (TookBytes path (length bytes)) watcher_after
  pub gets : GetsBytes old new bytes
  pub ended : new.at_end ≡ true

-- the reading stopped, for this reason
pub record StopsReading {T W : Type 0} (observes : T → Observation → T → Type 0) (hears : W → Heard → W → Type 0)
    (path : List ℕ) (entry : FolderEntry) (why : Skipped) (old new : FileLane) (tree tree_after : T)
    (watcher watcher_after : W) : Type 0 where
  pub ending : Ending
  pub is_ending : IsEnding entry.len old.from ending
  pub dropped : IsDropped ending why
  pub observed : GoesOver observes tree (last_read path entry old.from ending) tree_after
  pub heard : GoesOver hears watcher (flat_map heard_of_observation (last_read path entry old.from ending))
      watcher_after
  pub limit : new.ends.limit ≡ old.ends.limit

-- what a read came to
abbrev pub ReadsOnce : {T W : Type 0} → (T → Observation → T → Type 0) → (W → Heard → W → Type 0) → List ℕ → FolderEntry
    → Outcome → FileLane → FileLane → T → T → W → W → Type 0
ReadsOnce observes hears path entry outcomes.Piece old new tree tree_after watcher watcher_after =
    ReadsPiece observes hears path entry old new tree tree_after watcher watcher_after
ReadsOnce observes hears path entry outcomes.Last old new tree tree_after watcher watcher_after =
    ReadsLast observes hears path entry old new tree tree_after watcher watcher_after
ReadsOnce observes hears path entry (outcomes.Stopped why) old new tree tree_after watcher watcher_after =
    StopsReading observes hears path entry why old new tree tree_after watcher watcher_after

-- what a read of these bytes means, where `wanted` bytes were asked for
abbrev pub IsJudged : ℕ → ℕ → List ℕ → ℕ → Outcome → Type 0
IsJudged size from bytes wanted outcomes.Piece = (length bytes ≡ wanted) × (from + length bytes ≤ size)
IsJudged size from bytes wanted outcomes.Last = IsEnding size from (AtEnd wanted bytes)
IsJudged size from bytes wanted (outcomes.Stopped why) =
    (why ≡ reasons.Changed)
    × ((IsEnding size from (TooShort wanted bytes)) ⊎ (IsEnding size from (TooLong wanted bytes)))

-- the lane keeps the bytes in its buffer, or drops them
abbrev pub Keeps : FileLane → FileLane → List ℕ → Outcome → Type 0
Keeps old new bytes outcomes.Piece = GetsBytes old new bytes × (new.at_end ≡ false)
Keeps old new bytes outcomes.Last = GetsBytes old new bytes × (new.at_end ≡ true)
Keeps old new bytes (outcomes.Stopped why) = new.ends.limit ≡ old.ends.limit

-- at most as many bytes came as were asked for; they were judged, and the lane keeps those of the file
pub record TakesPiece (old new : FileLane) (size wanted : ℕ) (outcome : Outcome) : Type 0 where
  pub judged : length old.buffer.items ≤ wanted → old.from ≤ size
      → IsJudged size old.from old.buffer.items wanted outcome
  pub keeps : old.from ≤ size → Keeps old new old.buffer.items outcome
  pub limit : new.ends.limit ≡ old.ends.limit

-- the lane has to read on
pub record IsDue (lane : FileLane) : Type 0 where
  pub busy : lane.busy ≡ true
  pub goes_on : lane.at_end ≡ false
  pub hashed : drop lane.hashed lane.buffer.items ≡ []
