-- How the file of a lane ends.
use Rattle.std.specs.Prelude.{◌≡◌, ℕ, ◌≤◌, true, List, [], length, drop}
use Rattle.droid_frame.specs.declared.hash_value.HashValue.{HashValue}
use Rattle.droid_pronom.specs.declared.identification.Found.{Found}
use Rattle.droid_hash.specs.Ends.{Came}
use Rattle.droid_profile.specs.declared.options.Options.{Options}
use Rattle.droid_profile.specs.declared.lanes.file_lane.FileLane.{FileLane}
use Rattle.droid_profile.specs.declared.lanes.file_row.FileRow.{FileRow}
use Rattle.droid_profile.specs.declared.lanes.file_row.FileState.TheVariants.{Whole}

-- all bytes of the lane's file are hashed
pub record HasEnded (lane : FileLane) : Type 0 where
  pub busy : lane.busy ≡ true
  pub at_end : lane.at_end ≡ true
  pub hashed : drop lane.hashed lane.buffer.items ≡ []

-- the ends that the lane keeps are those of this file
pub record HasRead (options : Options) (lane : FileLane) (row : FileRow) : Type 0 where
  pub bytes : List ℕ
  pub came : Came lane.ends bytes
  pub counted : length bytes ≡ row.entry.len
  pub size : lane.ends.size ≡ row.entry.len
  pub limit : lane.ends.limit ≡ options.scan_limit
  pub few : options.scan_limit ≤ 65536
  pub named : row.record.name ≡ row.entry.name

-- the record is complete
pub record Completes (old new : FileRow) (digest : HashValue) (found : Found) : Type 0 where
  pub entry : new.entry ≡ old.entry
  pub state : new.state ≡ Whole
  pub record_is : new.record
      ≡ record old.record { method = found.method; mismatch = found.mismatch; hash = digest; puids = found.puids }
