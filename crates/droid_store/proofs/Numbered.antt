-- A row that is found by its number among rows that are numbered in turn.
use Rattle.std.proofs.Common.{◌≡◌, inl, inr, ℕ, zero, suc, ◌+◌, ◌<◌, ◌≤◌, ◌==◌, List, [], ◌∷◌, length, find, filter, slice_get, true, false, None, option_map, refl, arith}
use Rattle.std.proofs.lemmas.Bool.{cases_Bool, eqb-true}
use Rattle.std.proofs.lemmas.Bool.Decides.{nat_tests}
use Rattle.std.specs.List.{AllByRecursion}
use Rattle.droid_store.specs.KeyedRows.{numbered_from, AreRising}

not_lower : (m n : ℕ) → m < n → (n == m) ≡ false
not_lower m n h = grind (arith, nat_tests)

same_is : (n : ℕ) → (n == n) ≡ true
same_is n = grind (arith, nat_tests)

module _ {X : Type 0} (key : X → ℕ) where
  none_above : (n low : ℕ) (xs : List X) → n ≤ low → AllByRecursion (λ x. low < key x) xs → filter (λ x. key x == n) xs ≡ []
  none_above n low [] less above = refl
  none_above n low (x ∷ xs) less above = rw (not_lower n (key x) (omega (arith, above.0))) (none_above n low xs less above.1)

  -- at most one row has a rowid
  pub few_with_key : (n : ℕ) (xs : List X) → AreRising key xs → length (filter (λ x. key x == n) xs) ≤ 1
  few_with_key n [] rise = omega arith
  few_with_key n (x ∷ xs) rise = elim (cases_Bool (key x == n)) [
    | inl is ↦ rw (is, none_above n (key x) xs (let same = eqb-true (key x) n is in omega arith) rise.0) (omega arith)
    | inr isnt ↦ rw isnt (few_with_key n xs rise.1)
  ]

module _ {R : Type 0} where
  none_lower : (m n : ℕ) (rs : List R) → m < n → find (λ (x : ℕ × R). x.0 == m) (numbered_from n rs) ≡ None
  none_lower m n [] less = refl
  none_lower m n (r ∷ rs) less = rw (not_lower m n less) (none_lower m (suc n) rs (omega arith))

  at_place : (n k m : ℕ) (rs : List R) → m ≡ n + k → option_map (λ (x : ℕ × R). x.1) (find (λ (x : ℕ × R). x.0 == m) (numbered_from n rs)) ≡ slice_get rs k
  at_place n k m [] is = refl
  at_place n zero m (r ∷ rs) is = let same : (n == m) ≡ true = grind (arith, nat_tests) in rw same refl
  at_place n (suc k) m (r ∷ rs) is = rw (not_higher n m (omega arith)) (at_place (suc n) k m rs (omega arith))
    where
      not_higher : (a b : ℕ) → a < b → (a == b) ≡ false
      not_higher a b h = grind (arith, nat_tests)

  -- the row with this number, where the first has the number 1
  pub find_numbered : (k : ℕ) (rs : List R) → option_map (λ (x : ℕ × R). x.1) (find (λ (x : ℕ × R). x.0 == suc k) (numbered_from 1 rs)) ≡ slice_get rs k
  find_numbered k rs = at_place 1 k (suc k) rs (omega arith)

  pub find_no_zero : (rs : List R) → find (λ (x : ℕ × R). x.0 == 0) (numbered_from 1 rs) ≡ None
  find_no_zero rs = none_lower 0 1 rs (omega arith)
