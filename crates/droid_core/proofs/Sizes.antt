-- The sizes of an accepted file are those that an assembly may have.
use Rattle.std.proofs.Common.{◌≡◌, ℕ, ◌≤◌, ◌==◌, nat_le, false, inl, inr, IsTrue, refl, arith}
use Rattle.std.proofs.lemmas.Bool.{and_parts, cases_Bool, leb-true, le-leb}
use Rattle.droid_assembly.specs.Pieces.{AreSizes, piece_count}
use Rattle.droid_core_spec.specs.Conditions.{is_scan_limit, is_piece_size, piece_size_limit, is_too_large}

limit_within : (scan_limit : ℕ) → IsTrue (is_scan_limit scan_limit) → (1 ≤ scan_limit) × (scan_limit ≤ 65536)
unfolding is_scan_limit
limit_within scan_limit is = grind (arith)

-- no version allows larger pieces than version 2
most_of_any : (version : ℕ) → piece_size_limit version ≤ 4194304
most_of_any version = elim (cases_Bool (version == 1)) [
  | inl is ↦ rw is (omega arith)
  | inr isnt ↦ rw isnt (omega arith)
]

pub piece_size_within : (version size : ℕ) → IsTrue (is_piece_size version size) → (1 ≤ size) × (size ≤ 4194304)
unfolding is_piece_size
piece_size_within version size is =
    let parts = and_parts (nat_le 1 size) (nat_le size (piece_size_limit version)) is in
    (leb-true 1 size parts.0, omega (arith, leb-true size (piece_size_limit version) parts.1, most_of_any version))

-- so it allows the pieces of each version
pub allowed_in_2 : (version size : ℕ) → IsTrue (is_piece_size version size) → IsTrue (is_piece_size 2 size)
unfolding is_piece_size
allowed_in_2 version size is =
    let within = piece_size_within version size is in
    rw (le-leb 1 size within.0, le-leb size 4194304 within.1) refl

pub size_within : (size piece_size : ℕ) → is_too_large size piece_size ≡ false → (size ≤ 1099511627776) × (piece_count size piece_size ≤ 1048576)
unfolding is_too_large
size_within size piece_size within = grind (arith)

pub sizes : (version size piece_size scan_limit : ℕ) → IsTrue (is_piece_size version piece_size) → is_too_large size piece_size ≡ false → IsTrue (is_scan_limit scan_limit) → AreSizes size piece_size scan_limit
sizes version size piece_size scan_limit due within at =
    let cut = piece_size_within version piece_size due in
    let whole = size_within size piece_size within in
    let scanned = limit_within scan_limit at in
    record {
      size_fits = whole.0;
      piece_size_positive = cut.0;
      piece_size_fits = cut.1;
      count_fits = whole.1;
      scan_limit_positive = scanned.0;
      scan_limit_fits = scanned.1;
    }
