-- What the rules for a node say, spelled out.
use Rattle.std.proofs.Common.{◌≡◌, ◌==◌, ◌&&◌, ◌||◌, ℕ, ℤ, pos, negsuc, not, List, [], ◌∷◌, length, refl}
use Rattle.std.specs.Prelude.{nat_lt}
use Rattle.std.specs.Int.Signed.{lt_z}
use Rattle.std.specs.List.{list_any}
use Rattle.std.specs.Str.{bytes_eq}
use Rattle.droid_core_spec.specs.Conditions.{is_moment, is_bad_name, is_separator}

pub moment_is : (seconds : ℤ) → is_moment seconds ≡ (not (lt_z seconds (negsuc 62135596799)) && not (lt_z (pos 253402300799) seconds))
unfolding is_moment
moment_is seconds = refl

pub bad_name_is : (name : List ℕ) → is_bad_name name
    ≡ ((length name == 0) || nat_lt 255 (length name) || bytes_eq name (46 ∷ []) || bytes_eq name (46 ∷ 46 ∷ []) || list_any is_separator name)
unfolding is_bad_name
bad_name_is name = refl
