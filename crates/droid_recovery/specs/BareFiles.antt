-- What the end of a bare file comes to (this project's own).
use Rattle.std.specs.Prelude.{◌≡◌, ℕ, ℤ, false, List, [], Some}
use Rattle.droid_frame.specs.declared.reply.Reply.{Reply}
use Rattle.droid_core_spec.specs.Files.{as_finished, finding_of, finished_reply}
use Rattle.droid_core_spec.specs.Judging.{world_set, node_set}
use Rattle.droid_core_spec.specs.Setting.{Setting}
use Rattle.droid_core_spec.specs.World.{Content, File, Profile, World, numbered, node_at}
use Rattle.droid_recovery.specs.BareWorlds.{Bare, bare_world}

-- The world without the bytes has the unfinished file without pieces. The reply is what the file with all its pieces is
-- found to be, and that file, finished, stands in its place in the world after it.
pub record FinishesBare (setting : Setting) (bare : Bare) (world : World) (profile file : ℕ) (reply : Reply)
    (after : World) : Type 0 where
  pub its : Profile
  pub parent : ℕ
  pub modified : ℤ
  pub name : List ℕ
  pub content : Content
  pub there : numbered (bare_world bare world).profiles profile ≡ Some its
  pub at : node_at its.nodes file ≡ Some (File parent modified name (record content { pieces = [] }))
  pub unfinished : content.finished ≡ false
  pub replied : reply ≡ finished_reply (finding_of setting its name content)
  pub left : bare_world bare after
      ≡ world_set (bare_world bare world) profile (node_set its file (File parent modified name (as_finished content)))
