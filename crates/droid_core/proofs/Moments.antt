-- The records of a sound world have moments that can be written.
use Rattle.std.proofs.Common.{◌≡◌, inl, inr, ℕ, ℤ, pos, negsuc, T, ◌+◌, List, [], ◌∷◌, not, Some, IsTrue, sym, subst}
use Rattle.std.proofs.lemmas.Bool.{cases_Bool, and_parts}
use Rattle.std.specs.Int.Signed.{lt_z, lt_z_no}
use Rattle.std.specs.List.{AllByRecursion}
use Rattle.droid_export.specs.Moments.{IsMoment}
use Rattle.droid_export.specs.Text.{HaveMoments}
use Rattle.droid_core_spec.specs.Conditions.{is_moment}
use Rattle.droid_core_spec.specs.Records.{option_list, record_of, records_from, records}
use Rattle.droid_core_spec.specs.Setting.{Setting}
use Rattle.droid_core_spec.specs.World.{Node, Folder, File, Abandoned, Profile, World, numbered}
use Rattle.droid_core.specs.Sound.{IsSoundNode, IsSoundWorld}
use Rattle.droid_core.proofs.Lists.{each_of_both}
use Rattle.droid_core.proofs.Soundness.{sound_profile}

moment_of : (seconds : ℤ) → IsTrue (is_moment seconds) → IsMoment seconds
unfolding is_moment
moment_of seconds is =
    let parts = and_parts (not (lt_z seconds (negsuc 62135596799))) (not (lt_z (pos 253402300799) seconds)) is in
    (lt_z_no (subst T (sym parts.0) tt), lt_z_no (subst T (sym parts.1) tt))

moment_of_record : (setting : Setting) (profile : Profile) (id : ℕ) (node : Node) → IsSoundNode profile.nodes node → HaveMoments (option_list (record_of setting profile id node))
moment_of_record setting profile id (Folder parent modified name) sound = (moment_of modified sound.1, tt)
moment_of_record setting profile id (File parent modified name content) sound = elim (cases_Bool content.finished) [
  | inl is ↦ rw is (moment_of modified sound.1, tt)
  | inr isnt ↦ rw isnt tt
]
moment_of_record setting profile id Abandoned sound = tt

moments_from : (setting : Setting) (profile : Profile) (first : ℕ) (nodes : List Node) → AllByRecursion (IsSoundNode profile.nodes) nodes → HaveMoments (records_from setting profile first nodes)
moments_from setting profile first [] sound = tt
moments_from setting profile first (node ∷ nodes) sound =
    each_of_both _ (option_list (record_of setting profile first node)) (records_from setting profile (first + 1) nodes)
    (moment_of_record setting profile first node sound.0) (moments_from setting profile (first + 1) nodes sound.1)

pub moments_found : (setting : Setting) (world : World) (number : ℕ) (profile : Profile) → IsSoundWorld world → numbered world.profiles number ≡ Some profile → HaveMoments (records setting profile)
moments_found setting world number profile sound is = moments_from setting profile 1 profile.nodes (sound_profile world number profile sound is).nodes
