-- Lists in which at most one element passes a test, and lists that are seen through a function.
use Rattle.std.proofs.Common.{◌≡◌, inl, inr, ℕ, suc, ◌+◌, ◌≤◌, List, [], ◌∷◌, ◌++◌, length, map, find, filter, Bool, true, not, Some, None, option_map, refl, sym, ap, ◌∙◌, arith, length-append}
use Rattle.std.proofs.lemmas.Bool.{cases_Bool}
use Rattle.std.proofs.lemmas.List.Elements.{filter-append}
use Rattle.droid_store.specs.KeyedRows.{changed_where}

pub nothing_in : {X : Type 0} (xs : List X) → length xs ≤ 0 → xs ≡ []
nothing_in [] few = refl
nothing_in (x ∷ xs) few = absurd (omega arith)

module _ {X : Type 0} (p : X → Bool) where
  pub none_found : (xs : List X) → find p xs ≡ None → filter p xs ≡ []
  none_found [] none = refl
  none_found (x ∷ xs) none = elim (cases_Bool (p x)) [
    | inl is ↦ absurd (let it = rw is at none in cc)
    | inr isnt ↦ rw isnt (none_found xs (rw isnt at none))
  ]

  pub found_passes : (xs : List X) (x : X) → find p xs ≡ Some x → p x ≡ true
  found_passes [] x is = absurd cc
  found_passes (y ∷ ys) x is = elim (cases_Bool (p y)) [
    | inl passes ↦ let same : y ≡ x = (let it = rw passes at is in cc) in rw (sym same) passes
    | inr fails ↦ found_passes ys x (rw fails at is)
  ]

  -- where none passes, taking out those that pass leaves all, and so does changing them
  pub none_goes : (xs : List X) → filter p xs ≡ [] → filter (λ x. not (p x)) xs ≡ xs
  none_goes [] none = refl
  none_goes (x ∷ xs) none = elim (cases_Bool (p x)) [
    | inl is ↦ absurd (let it = rw is at none in cc)
    | inr isnt ↦ rw isnt (ap (λ ys. x ∷ ys) (none_goes xs (rw isnt at none)))
  ]

  pub none_changes : (change : X → X) (xs : List X) → filter p xs ≡ [] → map (changed_where p change) xs ≡ xs
  none_changes change [] none = refl
  none_changes change (x ∷ xs) none = elim (cases_Bool (p x)) [
    | inl is ↦ absurd (let it = rw is at none in cc)
    | inr isnt ↦ rw isnt (ap (λ ys. x ∷ ys) (none_changes change xs (rw isnt at none)))
  ]

  -- one element more, where none passed that passes as it does
  pub one_more : (xs : List X) (x : X) (n : ℕ) → (p x ≡ true → length (filter p xs) + 1 ≤ n) → length (filter p xs) ≤ n → length (filter p (xs ++ x ∷ [])) ≤ n
  one_more xs x n more few = rw (filter-append p xs (x ∷ []), length-append (filter p xs) (filter p (x ∷ []))) (elim (cases_Bool (p x)) [
    | inl is ↦ rw is (more is)
    | inr isnt ↦ rw isnt (omega (arith, few))
  ])

  -- and in particular where none is found
  pub one_after_none : (xs : List X) (x : X) → (p x ≡ true → find p xs ≡ None) → length (filter p xs) ≤ 1 → length (filter p (xs ++ x ∷ [])) ≤ 1
  one_after_none xs x none few = one_more xs x 1 (λ is. rw (none_found xs (none is)) (omega arith)) few

  -- some elements taken out
  pub fewer : (q : X → Bool) (xs : List X) → length (filter p (filter q xs)) ≤ length (filter p xs)
  fewer q [] = omega arith
  fewer q (x ∷ xs) = elim (cases_Bool (q x)) [
    | inl in_q ↦ elim (cases_Bool (p x)) [
      | inl is ↦ rw (in_q, is) (let rest = fewer q xs in omega arith)
      | inr isnt ↦ rw (in_q, isnt) (fewer q xs)
    ]
    | inr not_q ↦ elim (cases_Bool (p x)) [
      | inl is ↦ rw (not_q, is) (let rest = fewer q xs in omega arith)
      | inr isnt ↦ rw (not_q, isnt) (fewer q xs)
    ]
  ]

  -- elements changed, where the test does not see it
  pub as_many : (f : X → X) → ((x : X) → p (f x) ≡ p x) → (xs : List X) → length (filter p (map f xs)) ≡ length (filter p xs)
  as_many f blind [] = refl
  as_many f blind (x ∷ xs) = elim (cases_Bool (p x)) [
    | inl is ↦ rw (blind x, is) (ap suc (as_many f blind xs))
    | inr isnt ↦ rw (blind x, isnt) (as_many f blind xs)
  ]

-- ---- lists seen through a function

module _ {X Y : Type 0} (f : X → Y) (p : Y → Bool) where
  pub filter_seen : (xs : List X) → filter p (map f xs) ≡ map f (filter (λ x. p (f x)) xs)
  filter_seen [] = refl
  filter_seen (x ∷ xs) = elim (cases_Bool (p (f x))) [
    | inl is ↦ rw is (ap (λ ys. f x ∷ ys) (filter_seen xs))
    | inr isnt ↦ rw isnt (filter_seen xs)
  ]

  pub find_seen : (xs : List X) → find p (map f xs) ≡ option_map f (find (λ x. p (f x)) xs)
  find_seen [] = refl
  find_seen (x ∷ xs) = elim (cases_Bool (p (f x))) [
    | inl is ↦ rw is refl
    | inr isnt ↦ rw isnt (find_seen xs)
  ]

  pub changed_seen : (change : X → X) (seen : Y → Y) → ((x : X) → f (change x) ≡ seen (f x)) → (xs : List X)
      → map f (map (changed_where (λ x. p (f x)) change) xs) ≡ map (changed_where p seen) (map f xs)
  changed_seen change seen is [] = refl
  changed_seen change seen is (x ∷ xs) = elim (cases_Bool (p (f x))) [
    | inl hit ↦ rw hit (ap (λ y. y ∷ map f (map (changed_where (λ z. p (f z)) change) xs)) (is x) ∙ ap (λ ys. seen (f x) ∷ ys) (changed_seen change seen is xs))
    | inr miss ↦ rw miss (ap (λ ys. f x ∷ ys) (changed_seen change seen is xs))
  ]
