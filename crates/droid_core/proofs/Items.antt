-- Lists: an item put in the place of another or at the end, and filters of lists that were changed.
use Rattle.std.proofs.Common.{◌≡◌, inl, inr, ℕ, zero, suc, ◌+◌, ◌-◌, ◌<◌, List, [], ◌∷◌, ◌++◌, length, map, filter, slice_get, slice_set, Bool, true, Some, None, refl, ap, ◌∙◌, arith}
use Rattle.std.proofs.lemmas.Bool.{cases_Bool}
use Rattle.droid_core_spec.specs.World.{numbered}

module _ {X : Type 0} where
  pub get_set_same : (xs : List X) (place : ℕ) (x y : X) → slice_get xs place ≡ Some x → slice_get (slice_set xs place y) place ≡ Some y
  get_set_same [] place x y is = absurd cc
  get_set_same (z ∷ zs) zero x y is = refl
  get_set_same (z ∷ zs) (suc place) x y is = get_set_same zs place x y is

  pub get_set_other : (xs : List X) (place other : ℕ) (y : X) → (other ≡ place → ⊥) → slice_get (slice_set xs place y) other ≡ slice_get xs other
  get_set_other [] place other y apart = refl
  get_set_other (z ∷ zs) zero zero y apart = absurd (apart refl)
  get_set_other (z ∷ zs) zero (suc other) y apart = refl
  get_set_other (z ∷ zs) (suc place) zero y apart = refl
  get_set_other (z ∷ zs) (suc place) (suc other) y apart = get_set_other zs place other y (λ is. apart (ap suc is))

  pub get_before : (xs ys : List X) (place : ℕ) → place < length xs → slice_get (xs ++ ys) place ≡ slice_get xs place
  get_before [] ys place less = absurd (omega arith)
  get_before (x ∷ xs) ys zero less = refl
  get_before (x ∷ xs) ys (suc place) less = get_before xs ys place (omega arith)

  pub get_last : (xs : List X) (x : X) (place : ℕ) → place ≡ length xs → slice_get (xs ++ x ∷ []) place ≡ Some x
  get_last [] x zero is = refl
  get_last [] x (suc place) is = absurd (omega arith)
  get_last (y ∷ ys) x zero is = absurd (omega arith)
  get_last (y ∷ ys) x (suc place) is = get_last ys x place (omega arith)

  pub get_past : (xs : List X) (place : ℕ) → length xs < place + 1 → slice_get xs place ≡ None
  get_past [] place past = refl
  get_past (x ∷ xs) zero past = absurd (omega arith)
  get_past (x ∷ xs) (suc place) past = get_past xs place (omega arith)

  -- ---- by numbers from 1

  pub numbered_set_same : (xs : List X) (number : ℕ) (x y : X) → numbered xs number ≡ Some x → numbered (slice_set xs (number - 1) y) number ≡ Some y
  numbered_set_same xs zero x y is = absurd cc
  numbered_set_same xs (suc place) x y is = let less : suc place - 1 ≡ place = omega arith in rw less (get_set_same xs place x y is)

  pub numbered_set_other : (xs : List X) (number other : ℕ) (x y : X) → numbered xs number ≡ Some x → (other ≡ number → ⊥) → numbered (slice_set xs (number - 1) y) other ≡ numbered xs other
  numbered_set_other xs zero other x y is apart = absurd cc
  numbered_set_other xs (suc place) zero x y is apart = refl
  numbered_set_other xs (suc place) (suc other) x y is apart =
      let less : suc place - 1 ≡ place = omega arith in
      rw less (get_set_other xs place other y (λ same. apart (ap suc same)))

  pub numbered_before : (xs ys : List X) (number : ℕ) → number < length xs + 1 → numbered (xs ++ ys) number ≡ numbered xs number
  numbered_before xs ys zero less = refl
  numbered_before xs ys (suc place) less = get_before xs ys place (omega arith)

  pub numbered_last : (xs : List X) (x : X) (number : ℕ) → number ≡ length xs + 1 → numbered (xs ++ x ∷ []) number ≡ Some x
  numbered_last xs x zero is = absurd (omega arith)
  numbered_last xs x (suc place) is = get_last xs x place (omega arith)

  pub numbered_past : (xs : List X) (number : ℕ) → length xs < number → numbered xs number ≡ None
  numbered_past xs zero past = refl
  numbered_past xs (suc place) past = get_past xs place (omega arith)

  -- ---- filters

  -- a change that the test doesn't see
  pub filter_changed : (test : X → Bool) (change : X → X) → ((x : X) → test (change x) ≡ test x) → (xs : List X) → filter test (map change xs) ≡ map change (filter test xs)
  filter_changed test change blind [] = refl
  filter_changed test change blind (x ∷ xs) = elim (cases_Bool (test x)) [
    | inl is ↦ rw (blind x, is) (ap (λ ys. change x ∷ ys) (filter_changed test change blind xs))
    | inr isnt ↦ rw (blind x, isnt) (filter_changed test change blind xs)
  ]

  -- a change of none that passes
  pub filter_unchanged : (test : X → Bool) (change : X → X) → ((x : X) → test x ≡ true → change x ≡ x) → (xs : List X) → map change (filter test xs) ≡ filter test xs
  filter_unchanged test change keeps [] = refl
  filter_unchanged test change keeps (x ∷ xs) = elim (cases_Bool (test x)) [
    | inl is ↦ rw is (ap (λ y. y ∷ map change (filter test xs)) (keeps x is) ∙ ap (λ ys. x ∷ ys) (filter_unchanged test change keeps xs))
    | inr isnt ↦ rw isnt (filter_unchanged test change keeps xs)
  ]

  -- two tests one after the other, in either order
  pub filter_turned : (test stays : X → Bool) (xs : List X) → filter test (filter stays xs) ≡ filter stays (filter test xs)
  filter_turned test stays [] = refl
  filter_turned test stays (x ∷ xs) = elim (cases_Bool (test x)) [
    | inl is ↦ elim (cases_Bool (stays x)) [
      | inl here ↦ rw (is, here, is) (ap (λ ys. x ∷ ys) (filter_turned test stays xs))
      | inr gone ↦ rw (is, gone) (filter_turned test stays xs)
    ]
    | inr isnt ↦ elim (cases_Bool (stays x)) [
      | inl here ↦ rw (isnt, here, isnt) (filter_turned test stays xs)
      | inr gone ↦ rw (isnt, gone) (filter_turned test stays xs)
    ]
  ]

  -- a test that all pass that passed another
  pub filter_kept : (test stays : X → Bool) → ((x : X) → test x ≡ true → stays x ≡ true) → (xs : List X) → filter stays (filter test xs) ≡ filter test xs
  filter_kept test stays keeps [] = refl
  filter_kept test stays keeps (x ∷ xs) = elim (cases_Bool (test x)) [
    | inl is ↦ rw is (rw (keeps x is) (ap (λ ys. x ∷ ys) (filter_kept test stays keeps xs)))
    | inr isnt ↦ rw isnt (filter_kept test stays keeps xs)
  ]
