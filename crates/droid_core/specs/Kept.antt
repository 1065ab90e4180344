-- What the list of unfinished files keeps, and what contracts see of it.
use Rattle.std.specs.Prelude.{◌≤◌, List, vec_len, vec_capacity}
use Rattle.std.specs.List.{AllByRecursion}
use Rattle.droid_core.specs.Files.{OpenFile, OpenFiles, AreDistinct}
use Rattle.droid_core.specs.declared.unfinished.files.UnfinishedFiles.TheInside.{Inside}

-- the files and their limit
abbrev pub files_of : Inside → OpenFiles
files_of kept = record { limit = kept.limit; files = kept.files.items }

-- of each file at most 65,536 bytes are scanned from each end
abbrev pub AreNarrow : List OpenFile → Type 0
AreNarrow files = AllByRecursion (λ file. file.assembly.scan_limit ≤ 65536) files

-- there are at most 64, each has a reserved place, and no file is there twice
pub record IsKept (kept : Inside) : Type 0 where
  pub few : kept.limit ≤ 64
  pub within : vec_len kept.files ≤ kept.limit
  pub room : kept.limit ≤ vec_capacity kept.files
  pub distinct : AreDistinct kept.files.items
  pub narrow : AreNarrow kept.files.items
