-- What changes in one lane.
use Rattle.std.specs.Prelude.{◌≡◌, ℕ, ◌<◌, ◌≤◌, true, false, List, [], ◌++◌, length, take, drop, Option, Some, None}
use Rattle.std.specs.Prelude.{slice_get}
use Rattle.droid_hash.specs.Ends.{Came}
use Rattle.droid_hash.specs.Scanning.{Scanned, lanes_kind}
use Rattle.droid_hash.specs.declared.hash_lanes.HashLanes.{HashLanes}
use Rattle.droid_profile.specs.declared.options.Options.{Options}
use Rattle.droid_profile.specs.declared.lanes.batch.Batch.{Batch}
use Rattle.droid_profile.specs.declared.lanes.file_lane.FileLane.{FileLane}

-- the lane begins the file at this place, of this size
pub record Begins (old new : FileLane) (place len : ℕ) : Type 0 where
  pub busy : new.busy ≡ true
  pub its : new.place ≡ place
  pub from : new.from ≡ 0
  pub at_end : new.at_end ≡ false
  pub empty : new.buffer.items ≡ []
  pub came : Came new.ends []
  pub size : new.ends.size ≡ len
  pub limit : new.ends.limit ≡ old.ends.limit

-- the lane hashed `count` more bytes
pub record Passes (old new : FileLane) (count : ℕ) : Type 0 where
  pub same : new ≡ record old { hashed = new.hashed }
  pub rest : drop new.hashed old.buffer.items ≡ drop count (drop old.hashed old.buffer.items)

-- all lanes keep as many bytes of each end as is scanned, and make the hash that is wanted
pub record IsFor (options : Options) (batch : Batch) : Type 0 where
  pub few : options.scan_limit ≤ 65536
  pub eight : length batch.lanes.items ≡ 8
  pub kind : lanes_kind batch.hashes ≡ options.hash
  pub limits : (j : ℕ) (lane : FileLane) → slice_get batch.lanes.items j ≡ Some lane
      → lane.ends.limit ≡ options.scan_limit

-- the bytes of this lane that are not hashed yet
abbrev pub rest_in : Option FileLane → List ℕ
rest_in None = []
rest_in (Some lane) = drop lane.hashed lane.buffer.items

-- the same of the lane with this number
abbrev pub rest_of : List FileLane → ℕ → List ℕ
rest_of lanes j = rest_in (slice_get lanes j)

-- what a lane was before it hashed `count` more bytes
pub record WasBefore (old : List FileLane) (j : ℕ) (after : FileLane) (count : ℕ) : Type 0 where
  pub lane : FileLane
  pub there : slice_get old j ≡ Some lane
  pub passes : Passes lane after count

-- what a lane is after it hashed `count` more bytes
pub record IsAfter (new : List FileLane) (j : ℕ) (lane : FileLane) (count : ℕ) : Type 0 where
  pub after : FileLane
  pub there : slice_get new j ≡ Some after
  pub passes : Passes lane after count

-- each lane hashed `count` more bytes
pub record AllPass (old new : List FileLane) (count : ℕ) : Type 0 where
  pub counted : length new ≡ length old
  pub each : (j : ℕ) (lane : FileLane) → slice_get old j ≡ Some lane → IsAfter new j lane count
  pub back : (j : ℕ) (after : FileLane) → slice_get new j ≡ Some after → WasBefore old j after count

-- the same for the lanes below this one; the others are as they were
pub record PassedBelow (old new : List FileLane) (count below : ℕ) : Type 0 where
  pub counted : length new ≡ length old
  pub each : (j : ℕ) (lane : FileLane) → j < below → slice_get old j ≡ Some lane → IsAfter new j lane count
  pub still : (j : ℕ) → below ≤ j → slice_get new j ≡ slice_get old j

-- all lanes hash as many bytes of what is left
pub record Advances (lanes lanes_after : List FileLane) (hashes hashes_after : HashLanes) : Type 0 where
  pub count : ℕ
  pub kind : lanes_kind hashes_after ≡ lanes_kind hashes
  pub taken : (j : ℕ) → j < 8 → (bytes : List ℕ) → Scanned hashes j bytes
      → Scanned hashes_after j (bytes ++ take count (rest_of lanes j))
  pub some : (j : ℕ) → j < 8 → 0 < length (rest_of lanes j) → 0 < count
  pub passed : AllPass lanes lanes_after count

-- no file is read in any lane
abbrev pub AreIdle : List FileLane → Type 0
AreIdle lanes = (j : ℕ) (lane : FileLane) → slice_get lanes j ≡ Some lane → lane.busy ≡ false
