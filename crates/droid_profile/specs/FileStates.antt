-- How far the files of a batch are.
use Rattle.std.specs.Prelude.{◌≡◌, ℕ, List, map, Some, slice_get}
use Rattle.droid_profile.specs.declared.lanes.file_row.FileRow.{FileRow}
use Rattle.droid_profile.specs.declared.lanes.file_row.FileState.{FileState}
use Rattle.droid_profile.specs.declared.lanes.file_row.FileState.TheVariants.{Waits}

-- there is a file at this place, in this state
pub record HasState (files : List FileRow) (place : ℕ) (state : FileState) : Type 0 where
  pub row : FileRow
  pub there : slice_get files place ≡ Some row
  pub its : row.state ≡ state

-- their numbers in the profile
abbrev pub numbers_in : List FileRow → List ℕ
numbers_in files = map (λ (row : FileRow). row.record.id) files

-- no two of them have one number
abbrev pub AreDistinct : List FileRow → Type 0
AreDistinct files =
    (one other : ℕ) (a b : FileRow) → slice_get files one ≡ Some a → slice_get files other ≡ Some b
    → a.record.id ≡ b.record.id → one ≡ other

-- none was begun; each has a number of its own, and its record has its name
pub record AreFresh (files : List FileRow) : Type 0 where
  pub waiting : (place : ℕ) (row : FileRow) → slice_get files place ≡ Some row → row.state ≡ Waits
  pub named : (place : ℕ) (row : FileRow) → slice_get files place ≡ Some row → row.record.name ≡ row.entry.name
  pub distinct : AreDistinct files
