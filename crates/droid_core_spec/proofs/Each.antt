-- What holds of each element of a list.
use Rattle.std.proofs.Common.{◌≡◌, ℕ, zero, suc, Bool, true, false, cond, List, [], ◌∷◌, ◌++◌, Option, Some, find, slice_get, slice_set, subst}
use Rattle.std.specs.List.{AllByRecursion}

module _ {X : Type 0} (P : X → Type 0) where
  pub each_at : (xs : List X) (place : ℕ) (x : X) → AllByRecursion P xs → slice_get xs place ≡ Some x → P x
  each_at [] place x all is = absurd cc
  each_at (y ∷ ys) zero x all is = (let same : y ≡ x = cc in subst P same all.0)
  each_at (y ∷ ys) (suc place) x all is = each_at ys place x all.1 is

  pub each_with_one_more : (xs : List X) (x : X) → AllByRecursion P xs → P x → AllByRecursion P (xs ++ x ∷ [])
  each_with_one_more [] x all it = (it, tt)
  each_with_one_more (y ∷ ys) x all it = (all.0, each_with_one_more ys x all.1 it)

  pub each_with_one_set : (xs : List X) (place : ℕ) (x : X) → AllByRecursion P xs → P x → AllByRecursion P (slice_set xs place x)
  each_with_one_set [] place x all it = tt
  each_with_one_set (y ∷ ys) zero x all it = (it, all.1)
  each_with_one_set (y ∷ ys) (suc place) x all it = (all.0, each_with_one_set ys place x all.1 it)

  first_or_later : (b : Bool) (y : X) (later : Option X) (x : X) → P y → (later ≡ Some x → P x) → cond b (Some y) later ≡ Some x → P x
  first_or_later true y later x it there is = (let same : y ≡ x = cc in subst P same it)
  first_or_later false y later x it there is = there is

  pub each_found : (p : X → Bool) (xs : List X) (x : X) → AllByRecursion P xs → find p xs ≡ Some x → P x
  each_found p [] x all is = absurd cc
  each_found p (y ∷ ys) x all is = first_or_later (p y) y (find p ys) x all.0 (each_found p ys x all.1) is
