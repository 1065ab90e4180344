-- The unfinished files of a service: how they are found, and what a change of one leaves as it was (this project's
-- own).
use Rattle.std.specs.Prelude.{◌≡◌, ℕ, ◌==◌, ◌&&◌, Bool, List, [], ◌∷◌, ⊤, Option, None, Some, slice_set}
use Rattle.std.specs.List.{find, slice_get}
use Rattle.droid_assembly.specs.State.{State}
use Rattle.droid_core.specs.declared.unfinished.file.UnfinishedFile.{UnfinishedFile}

-- an unfinished file: its profile, its number there, and its assembly
abbrev pub OpenFile : Type 0
OpenFile = UnfinishedFile

-- the unfinished files in some order, and the most that there can be
pub record OpenFiles : Type 0 where
  pub limit : ℕ
  pub files : List OpenFile

-- the file is that of this number in this profile
abbrev pub is_of : ℕ → ℕ → OpenFile → Bool
is_of profile number file = (file.profile == profile) && (file.file == number)

-- the unfinished file of this number in this profile
abbrev pub open_at : ℕ → ℕ → List OpenFile → Option OpenFile
open_at profile number files = find (is_of profile number) files

-- no two files have one profile and one number
abbrev pub AreDistinct : List OpenFile → Type 0
AreDistinct [] = ⊤
AreDistinct (file ∷ files) = (open_at file.profile file.file files ≡ None) × AreDistinct files

-- this file is at the place, counted from 0
abbrev pub IsAt : List OpenFile → ℕ → OpenFile → Type 0
IsAt files place file = slice_get files place ≡ Some file

-- the same file with another assembly
abbrev pub with_assembly : OpenFile → State → OpenFile
with_assembly file assembly = record file { assembly = assembly }

-- P holds of the assembly at the place
abbrev pub At : OpenFiles → ℕ → (State → Type 0) → Type 0
At all place P = (file : OpenFile) → IsAt all.files place file → P file.assembly

-- P holds of the assembly at the place before and after
abbrev pub Turns : OpenFiles → OpenFiles → ℕ → (State → State → Type 0) → Type 0
Turns old new place P =
    (before after : OpenFile) → IsAt old.files place before → IsAt new.files place after
    → P before.assembly after.assembly

-- the two are alike but for the assembly at the place
pub record IsAlikeBut (place : ℕ) (old new : OpenFiles) : Type 0 where
  pub limit : new.limit ≡ old.limit
  pub distinct : AreDistinct old.files
  pub before : OpenFile
  pub after : State
  pub was : IsAt old.files place before
  pub files : new.files ≡ slice_set old.files place (with_assembly before after)

-- the file at the place is still there, with some assembly, and its profile and number find it
pub record IsStillOpen (place : ℕ) (new : OpenFiles) (file : OpenFile) : Type 0 where
  pub after : State
  pub at : IsAt new.files place (with_assembly file after)
  pub found : open_at file.profile file.file new.files ≡ Some (with_assembly file after)
