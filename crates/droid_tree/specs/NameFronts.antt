-- For inner clauses and proofs: the front of a name as a number.
use Rattle.std.specs.Prelude.{◌≡◌, ℕ, zero, suc, ◌+◌, ◌*◌, ◌<◌, List, [], ◌∷◌, slice_index}

-- the weight of a byte that n bytes follow
abbrev pub weight : ℕ → ℕ
weight zero = 1
weight (suc n) = 256 * weight n

-- the first n bytes as a number, the first byte its highest
abbrev pub front_number : ℕ → List ℕ → ℕ
front_number zero name = 0
front_number (suc n) [] = 0
front_number (suc n) (b ∷ name) = b * weight n + front_number n name

-- the number that the first eight bytes spell, all of them below 256
pub record IsFront (name : List ℕ) (front : ℕ) : Type 0 where
  pub number : front ≡ front_number 8 name
  pub bytes : (i : ℕ) → i < 8 → slice_index name i < 256
