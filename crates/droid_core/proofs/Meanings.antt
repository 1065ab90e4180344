-- What the conditions say, spelled out.
use Rattle.std.proofs.Common.{◌≡◌, ◌^◌, ◌&&◌, ◌||◌, ℕ, refl}
use Rattle.std.specs.Prelude.{nat_lt, nat_le}
use Rattle.droid_assembly.specs.Pieces.{piece_count}
use Rattle.droid_core_spec.specs.Conditions.{is_scan_limit, is_piece_size, piece_size_limit, is_part_size, is_too_large}

pub scan_limit_is : (n : ℕ) → is_scan_limit n ≡ (nat_le 1 n && nat_le n 65536)
unfolding is_scan_limit
scan_limit_is n = refl

pub piece_size_is : (version n : ℕ) → is_piece_size version n ≡ (nat_le 1 n && nat_le n (piece_size_limit version))
unfolding is_piece_size
piece_size_is version n = refl

pub part_size_is : (n : ℕ) → is_part_size n ≡ (nat_le 1 n && nat_le n 1048576)
unfolding is_part_size
part_size_is n = refl

pub too_large_is : (size piece_size : ℕ) → is_too_large size piece_size ≡ (nat_lt (2 ^ 40) size || nat_lt 1048576 (piece_count size piece_size))
unfolding is_too_large
too_large_is size piece_size = refl
