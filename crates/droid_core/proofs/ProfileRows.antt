-- What the row of a profile says of the world.
use Rattle.std.proofs.Common.{◌≡◌, ℕ, Option, Some, None, option_map, refl, ◌∙◌}
use Rattle.droid_core_spec.specs.Setting.{Setting}
use Rattle.droid_core_spec.specs.World.{Profile, World, numbered}
use Rattle.droid_store.specs.declared.rows.ProfileRow.{ProfileRow}
use Rattle.droid_store.specs.Rows.{Rows, profile_at}
use Rattle.droid_core.specs.Rows.{profile_row, KeepsWorld}
use Rattle.droid_core.proofs.LookUps.{profile_found}
use Rattle.droid_core.specs.LookUps.{HasProfile}

of_row : (world : World) (number : ℕ) (row : ProfileRow) (one : Option Profile) → numbered world.profiles number ≡ one → Some row ≡ option_map profile_row one → HasProfile world number row
of_row world number row None there is = absurd cc
of_row world number row (Some profile) there is = record { profile = profile; there = there; row_is = (let same : row ≡ profile_row profile = cc in same) }

of_no_row : (one : Option Profile) → None ≡ option_map profile_row one → one ≡ None
of_no_row None is = refl
of_no_row (Some profile) is = absurd cc

module _ (setting : Setting) (world : World) (rows : Rows) (number : ℕ) (keeps : KeepsWorld setting world rows) where
  pub profile_there : (row : ProfileRow) → Some row ≡ profile_at number rows → HasProfile world number row
  profile_there row is = of_row world number row (numbered world.profiles number) refl (is ∙ profile_found world rows number keeps.profiles)

  pub profile_missing : None ≡ profile_at number rows → numbered world.profiles number ≡ None
  profile_missing is = of_no_row (numbered world.profiles number) (is ∙ profile_found world rows number keeps.profiles)
