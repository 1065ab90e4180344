-- Lists: an item put in the place of another, or at the end.
use Rattle.std.proofs.Common.{◌≡◌, ℕ, zero, suc, ◌+◌, ◌-◌, ◌<◌, List, [], ◌∷◌, ◌++◌, length, slice_get, slice_set, Some, None, refl, ap, arith}
use Rattle.droid_core_spec.specs.World.{numbered}

module _ {X : Type 0} where
  get_set_same : (xs : List X) (place : ℕ) (x y : X) → slice_get xs place ≡ Some x → slice_get (slice_set xs place y) place ≡ Some y
  get_set_same [] place x y is = absurd cc
  get_set_same (z ∷ zs) zero x y is = refl
  get_set_same (z ∷ zs) (suc place) x y is = get_set_same zs place x y is

  get_set_other : (xs : List X) (place other : ℕ) (y : X) → (other ≡ place → ⊥) → slice_get (slice_set xs place y) other ≡ slice_get xs other
  get_set_other [] place other y apart = refl
  get_set_other (z ∷ zs) zero zero y apart = absurd (apart refl)
  get_set_other (z ∷ zs) zero (suc other) y apart = refl
  get_set_other (z ∷ zs) (suc place) zero y apart = refl
  get_set_other (z ∷ zs) (suc place) (suc other) y apart = get_set_other zs place other y (λ is. apart (ap suc is))

  get_before : (xs ys : List X) (place : ℕ) → place < length xs → slice_get (xs ++ ys) place ≡ slice_get xs place
  get_before [] ys place less = absurd (omega arith)
  get_before (x ∷ xs) ys zero less = refl
  get_before (x ∷ xs) ys (suc place) less = get_before xs ys place (omega arith)

  get_past : (xs : List X) (place : ℕ) → length xs < place + 1 → slice_get xs place ≡ None
  get_past [] place past = refl
  get_past (x ∷ xs) zero past = absurd (omega arith)
  get_past (x ∷ xs) (suc place) past = get_past xs place (omega arith)

  -- ---- by numbers from 1

  pub numbered_set_same : (xs : List X) (number : ℕ) (x y : X) → numbered xs number ≡ Some x → numbered (slice_set xs (number - 1) y) number ≡ Some y
  numbered_set_same xs zero x y is = absurd cc
  numbered_set_same xs (suc place) x y is = let less : suc place - 1 ≡ place = omega arith in rw less (get_set_same xs place x y is)

  pub numbered_set_other : (xs : List X) (number other : ℕ) (x y : X) → numbered xs number ≡ Some x → (other ≡ number → ⊥) → numbered (slice_set xs (number - 1) y) other ≡ numbered xs other
  numbered_set_other xs zero other x y is apart = absurd cc
  numbered_set_other xs (suc place) zero x y is apart = refl
  numbered_set_other xs (suc place) (suc other) x y is apart =
      let less : suc place - 1 ≡ place = omega arith in
      rw less (get_set_other xs place other y (λ same. apart (ap suc same)))

  pub numbered_before : (xs ys : List X) (number : ℕ) → number < length xs + 1 → numbered (xs ++ ys) number ≡ numbered xs number
  numbered_before xs ys zero less = refl
  numbered_before xs ys (suc place) less = get_before xs ys place (omega arith)

  pub numbered_past : (xs : List X) (number : ℕ) → length xs < number → numbered xs number ≡ None
  numbered_past xs zero past = refl
  numbered_past xs (suc place) past = get_past xs place (omega arith)
