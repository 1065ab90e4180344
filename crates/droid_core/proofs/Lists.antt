-- Lists: tests of two parts, look-ups through a function, and what holds of each element.
use Rattle.std.proofs.Common.{◌≡◌, inl, inr, List, [], ◌∷◌, ◌++◌, map, find, filter, Bool, cond, ◌&&◌, Some, option_map, is_some, refl, ap}
use Rattle.std.proofs.lemmas.Bool.{cases_Bool}
use Rattle.std.specs.List.{AllByRecursion, list_any}

module _ {X : Type 0} (p q : X → Bool) where
  pub find_both : (xs : List X) → find (λ x. p x && q x) xs ≡ find q (filter p xs)
  find_both [] = refl
  find_both (x ∷ xs) = elim (cases_Bool (p x)) [
    | inl is ↦ rw is (ap (λ found. cond (q x) (Some x) found) (find_both xs))
    | inr isnt ↦ rw isnt (find_both xs)
  ]

  pub filter_both : (xs : List X) → filter (λ x. p x && q x) xs ≡ filter q (filter p xs)
  filter_both [] = refl
  filter_both (x ∷ xs) = elim (cases_Bool (p x)) [
    | inl is ↦ rw is (ap (λ kept. cond (q x) (x ∷ kept) kept) (filter_both xs))
    | inr isnt ↦ rw isnt (filter_both xs)
  ]

pub some_found : {X : Type 0} (p : X → Bool) (xs : List X) → is_some (find p xs) ≡ list_any p xs
some_found p [] = refl
some_found p (x ∷ xs) = elim (cases_Bool (p x)) [
  | inl is ↦ rw is refl
  | inr isnt ↦ rw isnt (some_found p xs)
]

pub find_mapped : {X Y : Type 0} (f : X → Y) (p : Y → Bool) (xs : List X) → find p (map f xs) ≡ option_map f (find (λ x. p (f x)) xs)
find_mapped f p [] = refl
find_mapped f p (x ∷ xs) = elim (cases_Bool (p (f x))) [
  | inl is ↦ rw is refl
  | inr isnt ↦ rw isnt (find_mapped f p xs)
]

-- ---- what holds of each element

pub each_of_both : {X : Type 0} (P : X → Type 0) (xs ys : List X) → AllByRecursion P xs → AllByRecursion P ys → AllByRecursion P (xs ++ ys)
each_of_both P [] ys all more = more
each_of_both P (x ∷ xs) ys all more = (all.0, each_of_both P xs ys all.1 more)

pub each_weaker : {X : Type 0} (P Q : X → Type 0) → ((x : X) → P x → Q x) → (xs : List X) → AllByRecursion P xs → AllByRecursion Q xs
each_weaker P Q weaker [] all = tt
each_weaker P Q weaker (x ∷ xs) all = (weaker x all.0, each_weaker P Q weaker xs all.1)
