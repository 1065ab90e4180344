-- Files that have ended (this project's own).
use Rattle.std.specs.Prelude.{◌≡◌, ◌⊎◌, ℕ, Bool, true, false, Some}
use Rattle.droid_frame.specs.declared.request.Request.TheVariants.{Abandon, Finish}
use Rattle.droid_core_spec.specs.Histories.{Entry, command}
use Rattle.droid_core_spec.specs.World.{Node, Folder, File, Abandoned, Profile, World, numbered}

-- finished or abandoned
abbrev pub has_ended : Node → Bool
has_ended (Folder parent modified name) = false
has_ended (File parent modified name content) = content.finished
has_ended Abandoned = true

-- the file with this number in this profile is there, and has ended
pub record IsEnded (world : World) (profile file : ℕ) : Type 0 where
  pub its : Profile
  pub node : Node
  pub there : numbered world.profiles profile ≡ Some its
  pub at : numbered its.nodes file ≡ Some node
  pub ended : has_ended node ≡ true

-- the entry's request is the Finish or the Abandon of this file
abbrev pub Ends : Entry → ℕ → ℕ → Type 0
Ends entry profile file =
    (command entry.frame ≡ Some (Finish profile file)) ⊎ (command entry.frame ≡ Some (Abandon profile file))
