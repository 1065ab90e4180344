-- The pieces of a file counted by their indexes: each index is taken once, so there are as many pieces as indexes.
use Rattle.std.proofs.Common.{◌≡◌, ◌≢◌, inl, inr, ℕ, zero, suc, ◌+◌, ◌<◌, ◌≤◌, List, [], ◌∷◌, ◌++◌, false, not, Option, Some, None, IsSome, is_none, is_some, refl, ap, subst, arith}
use Rattle.std.specs.List.{range_with_len}
use Rattle.std.proofs.lemmas.Bool.Decides.{eqb_tells}
use Rattle.std.proofs.lemmas.List.FromFn.{length-range_with_len}
use Rattle.std.proofs.lemmas.List.Sums.{prefix_len-le-length}
use Rattle.droid_assembly.specs.Pieces.{Piece, bytes_at, LacksIndex, missing}
use Rattle.droid_assembly.proofs.Indexes.{bytes_at-push_same, bytes_at-push_other}

-- one where the piece is there
abbrev pub one_if : Option (List ℕ) → ℕ
one_if None = 0
one_if (Some bytes) = 1

-- how many of the first indexes are there
abbrev pub there_below : ℕ → List Piece → ℕ
there_below zero pieces = 0
there_below (suc n) pieces = one_if (bytes_at pieces n) + there_below n pieces

pub none_below : (n : ℕ) → there_below n [] ≡ 0
none_below zero = refl
none_below (suc n) = omega (arith, none_below n)

-- a piece of a later index changes nothing
same_below : (n : ℕ) (pieces : List Piece) (piece : Piece) → n ≤ piece.0 → there_below n (pieces ++ piece ∷ []) ≡ there_below n pieces
same_below zero pieces piece later = refl
same_below (suc n) pieces piece later =
    let other : piece.0 ≢ n = omega arith in
    rw (bytes_at-push_other pieces piece n other) (ap (λ k. one_if (bytes_at pieces n) + k) (same_below n pieces piece (omega arith)))

-- a piece of a new index is one more
pub one_more_below : (n : ℕ) (pieces : List Piece) (piece : Piece) → piece.0 < n → LacksIndex pieces piece.0 → there_below n (pieces ++ piece ∷ []) ≡ there_below n pieces + 1
one_more_below zero pieces piece within lacks = absurd (omega arith)
one_more_below (suc n) pieces piece within lacks = elim (eqb_tells piece.0 n) [
  | inl t ↦
      let there : bytes_at (pieces ++ piece ∷ []) n ≡ Some piece.1 = subst (λ k. bytes_at (pieces ++ piece ∷ []) k ≡ Some piece.1) t.1 (bytes_at-push_same pieces piece lacks) in
      let lacked : bytes_at pieces n ≡ None = subst (λ k. bytes_at pieces k ≡ None) t.1 lacks in
      let rest = same_below n pieces piece (omega (arith, t.1)) in
      rw (there, lacked) (omega (arith, rest))
  | inr t ↦
      let rest = one_more_below n pieces piece (omega (arith, t.1)) lacks in
      rw (bytes_at-push_other pieces piece n t.1) (omega (arith, rest))
]

one_of : (place : Option (List ℕ)) → IsSome place → one_if place ≡ 1
one_of None is = absurd cc
one_of (Some bytes) is = refl

-- all of them are there
pub all_below : (n : ℕ) (pieces : List Piece) → ((k : ℕ) → k < n → IsSome (bytes_at pieces k)) → there_below n pieces ≡ n
all_below zero pieces there = refl
all_below (suc n) pieces there =
    let here = one_of (bytes_at pieces n) (there n (omega arith)) in
    let before = all_below n pieces (λ k below. there k (omega arith)) in
    omega (arith, here, before)

-- no index past the number of pieces is said to be missing
pub missing_within : (count : ℕ) (pieces : List Piece) → missing count pieces ≤ count
unfolding missing
missing_within count pieces =
    omega (arith, prefix_len-le-length (λ index. not (is_none (bytes_at pieces index))) (range_with_len 0 count), length-range_with_len 0 count)

pub lacks_where_none : (pieces : List Piece) (index : ℕ) → is_some (bytes_at pieces index) ≡ false → LacksIndex pieces index
lacks_where_none pieces index isnt = none_of (bytes_at pieces index) isnt
  where
    none_of : (place : Option (List ℕ)) → is_some place ≡ false → place ≡ None
    none_of None it = refl
    none_of (Some bytes) it = absurd cc
