-- One lane that takes a piece while the others are idle.
use Rattle.std.proofs.Common.{◌≡◌, ◌≢◌, ℕ, ◌<◌, ◌++◌, List, [], ◌∷◌, length, inl, inr, refl, sym, ap, subst, arith}
use Rattle.std.proofs.lemmas.Bool.{cases_lt}
use Rattle.std.proofs.lemmas.List.{append-nil}

-- what holds at one place and at each other holds at all
pub at_each : (P : ℕ → Type 0) (index n : ℕ) → P index → ((j : ℕ) → j < n → j ≢ index → P j) → (j : ℕ) → j < n → P j
at_each P index n here others j low = elim (cases_lt j index) [
  | inl below ↦ (let other : j ≢ index = omega arith in others j low other)
  | inr from ↦ elim (cases_lt index j) [
    | inl above ↦ (let other : j ≢ index = omega arith in others j low other)
    | inr same ↦ (let is : index ≡ j = omega arith in subst P is here)
  ]
]

empty_is : (xs : List ℕ) → length xs ≡ 0 → xs ≡ []
empty_is [] none = refl
empty_is (x ∷ xs) none = absurd (omega arith)

-- an empty piece adds nothing
pub nothing_more : (P : List ℕ → Type 0) (m piece : List ℕ) (len : ℕ) → len ≡ 0 → len ≡ length piece → P m → P (m ++ piece)
nothing_more P m piece len none is held =
    let empty : piece ≡ [] = empty_is piece (omega arith) in
    subst P (sym (ap (λ (x : List ℕ). m ++ x) empty)) (subst P (sym (append-nil m)) held)
