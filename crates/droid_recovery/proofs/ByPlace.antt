-- Lists of which each item is changed by its place or its number.
use Rattle.std.proofs.Common.{◌≡◌, ℕ, zero, suc, ◌+◌, ◌-◌, List, [], ◌∷◌, ◌++◌, length, slice_get, slice_set, Bool, ◌||◌, Some, option_map, sum_by, refl, sym, ap, ap₂, ◌∙◌, arith}
use Rattle.std.proofs.lemmas.List.Sums.{sum_by-cons}
use Rattle.std.specs.List.{list_any}
use Rattle.droid_core_spec.specs.World.{numbered}
use Rattle.droid_recovery.specs.BareWorlds.{by_place, by_number}

module _ {X : Type 0} where
  -- ---- by places

  pub place_get : (change : ℕ → X → X) (xs : List X) (place : ℕ) → slice_get (by_place change xs) place ≡ option_map (change place) (slice_get xs place)
  place_get change [] place = refl
  place_get change (x ∷ xs) zero = refl
  place_get change (x ∷ xs) (suc place) = place_get (λ at. change (suc at)) xs place

  pub place_length : (change : ℕ → X → X) (xs : List X) → length (by_place change xs) ≡ length xs
  place_length change [] = refl
  place_length change (x ∷ xs) = let rest = place_length (λ at. change (suc at)) xs in omega (arith, rest)

  place_push : (change : ℕ → X → X) (xs : List X) (x : X) → by_place change (xs ++ x ∷ []) ≡ by_place change xs ++ change (length xs) x ∷ []
  place_push change [] x = refl
  place_push change (y ∷ ys) x = ap (λ rest. change 0 y ∷ rest) (place_push (λ at. change (suc at)) ys x)

  place_set : (change : ℕ → X → X) (xs : List X) (place : ℕ) (x : X) → by_place change (slice_set xs place x) ≡ slice_set (by_place change xs) place (change place x)
  place_set change [] place x = refl
  place_set change (y ∷ ys) zero x = refl
  place_set change (y ∷ ys) (suc place) x = ap (λ rest. change 0 y ∷ rest) (place_set (λ at. change (suc at)) ys place x)

  pub place_same : (change : ℕ → X → X) (xs : List X) → ((place : ℕ) (x : X) → slice_get xs place ≡ Some x → change place x ≡ x) → by_place change xs ≡ xs
  place_same change [] same = refl
  place_same change (x ∷ xs) same = ap₂ (λ one rest. one ∷ rest) (same 0 x refl) (place_same (λ at. change (suc at)) xs (λ place y is. same (suc place) y is))

  place_own : (xs : List X) (place : ℕ) (x : X) → slice_get xs place ≡ Some x → slice_set xs place x ≡ xs
  place_own [] place x is = absurd cc
  place_own (y ∷ ys) zero x is = let same : y ≡ x = cc in ap (λ one. one ∷ ys) (sym same)
  place_own (y ∷ ys) (suc place) x is = ap (λ rest. y ∷ rest) (place_own ys place x is)

  -- ---- by numbers from 1

  pub numbered_by : (change : ℕ → X → X) (xs : List X) (number : ℕ) → numbered (by_number change xs) number ≡ option_map (change number) (numbered xs number)
  numbered_by change xs zero = refl
  numbered_by change xs (suc place) = place_get (λ at. change (suc at)) xs place

  pub length_by : (change : ℕ → X → X) (xs : List X) → length (by_number change xs) ≡ length xs
  length_by change xs = place_length (λ at. change (suc at)) xs

  pub push_by : (change : ℕ → X → X) (xs : List X) (x : X) → by_number change (xs ++ x ∷ []) ≡ by_number change xs ++ change (suc (length xs)) x ∷ []
  push_by change xs x = place_push (λ at. change (suc at)) xs x

  pub set_by : (change : ℕ → X → X) (xs : List X) (number : ℕ) (was x : X) → numbered xs number ≡ Some was
      → by_number change (slice_set xs (number - 1) x) ≡ slice_set (by_number change xs) (number - 1) (change number x)
  set_by change xs zero was x is = absurd cc
  set_by change xs (suc place) was x is = let less : suc place - 1 ≡ place = omega arith in rw less (place_set (λ at. change (suc at)) xs place x)

  pub same_by : (change : ℕ → X → X) (xs : List X) → ((number : ℕ) (x : X) → numbered xs number ≡ Some x → change number x ≡ x) → by_number change xs ≡ xs
  same_by change xs same = place_same (λ at. change (suc at)) xs (λ place x is. same (suc place) x is)

  -- an item in its own place
  pub set_own : (xs : List X) (number : ℕ) (x : X) → numbered xs number ≡ Some x → slice_set xs (number - 1) x ≡ xs
  set_own xs zero x is = absurd cc
  set_own xs (suc place) x is = let less : suc place - 1 ≡ place = omega arith in rw less (place_own xs place x is)

  -- ---- what no change is seen by

  pub any_by : (test : X → Bool) (change : ℕ → X → X) → ((place : ℕ) (x : X) → test (change place x) ≡ test x) → (xs : List X) → list_any test (by_place change xs) ≡ list_any test xs
  any_by test change same [] = refl
  any_by test change same (x ∷ xs) = ap₂ (λ here later. here || later) (same 0 x) (any_by test (λ at. change (suc at)) (λ place. same (suc place)) xs)

  pub sum_by_place : (f : X → ℕ) (change : ℕ → X → X) → ((place : ℕ) (x : X) → f (change place x) ≡ f x) → (xs : List X) → sum_by f (by_place change xs) ≡ sum_by f xs
  sum_by_place f change same [] = refl
  sum_by_place f change same (x ∷ xs) =
      sum_by-cons f (change 0 x) (by_place (λ at. change (suc at)) xs)
      ∙ ap₂ (λ here later. here + later) (same 0 x) (sum_by_place f (λ at. change (suc at)) (λ place. same (suc place)) xs)
      ∙ sym (sum_by-cons f x xs)
