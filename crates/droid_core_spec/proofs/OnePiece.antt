-- A file of one piece, for proofs of crates above.
use Rattle.std.proofs.Common.{◌≡◌, inl, inr, ℕ, zero, suc, ◌+◌, ◌/◌, ◌≤◌, List, [], ◌∷◌, ◌++◌, length, unwrap_or, div-one, refl, ap, ◌∙◌, append-nil, arith}
use Rattle.std.specs.List.{flat_map, range_with_len}
use Rattle.std.proofs.lemmas.Bool.Decides.{eqb_tells}
use Rattle.droid_assembly.specs.Pieces.{bytes_at, file_bytes, piece_count}

abbrev here : List ℕ → ℕ → List ℕ
here bytes index = unwrap_or (bytes_at ((0, bytes) ∷ []) index) []

past_it : (bytes : List ℕ) (index : ℕ) → 1 ≤ index → here bytes index ≡ []
past_it bytes index le = elim (eqb_tells 0 index) [
  | inl t ↦ absurd (omega (arith, le, t.1))
  | inr t ↦ rw t.0 refl
]

none_past : (bytes : List ℕ) (from n : ℕ) → 1 ≤ from → flat_map (here bytes) (range_with_len from n) ≡ []
none_past bytes from zero le = refl
none_past bytes from (suc n) le = ap (λ (l : List ℕ). l ++ flat_map (here bytes) (range_with_len (from + 1) n)) (past_it bytes from le) ∙ none_past bytes (from + 1) n (omega (arith, le))

one_piece : (bytes : List ℕ) (count : ℕ) → length bytes ≤ count → file_bytes count ((0, bytes) ∷ []) ≡ bytes
unfolding file_bytes
one_piece [] zero within = refl
one_piece (byte ∷ bytes) zero within = absurd (omega (arith, within))
one_piece bytes (suc n) within = ap (λ (l : List ℕ). bytes ++ l) (none_past bytes 1 n (omega arith)) ∙ append-nil bytes

count_is : (size : ℕ) → size ≤ piece_count size 1
count_is size = let e : size / 1 ≡ size = div-one size in omega (arith, e)

-- a file with this piece alone has its bytes
pub whole_bytes : (bytes : List ℕ) (size : ℕ) → length bytes ≡ size → file_bytes (piece_count size 1) ((0, bytes) ∷ []) ≡ bytes
whole_bytes bytes size counted = one_piece bytes (piece_count size 1) (omega (arith, counted, count_is size))
