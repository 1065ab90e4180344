-- Under a unique key no row clashes with another, where at most one typed row has each key.
use Rattle.std.proofs.Common.{◌≡◌, inl, inr, ℕ, ◌≤◌, ◌==◌, ◌&&◌, ◌||◌, pos, List, [], ◌∷◌, length, map, filter, Bool, true, false, not, refl, sym, ap, ◌∙◌, arith}
use Rattle.std.proofs.lemmas.Bool.{cases_Bool}
use Rattle.std.proofs.lemmas.Bool.Decides.{nat_tests}
use Rattle.std.specs.List.{AllByRecursion, list_any}
use Rattle.sqlite_rules.specs.Lists.{Has}
use Rattle.sqlite_schema.specs.Rules.{agree, clashes}
use Rattle.sqlite_value.specs.declared.keys.Order.{Order}
use Rattle.sqlite.specs.declared.types.Value.TheVariants.{Int}
use Rattle.sqlite.specs.Order.{Row}
use Rattle.droid_store.proofs.AtMostOne.{nothing_in}
use Rattle.droid_store.proofs.Comparisons.{different_numbers}

same_is : (n : ℕ) → (n == n) ≡ true
same_is n = grind (arith, nat_tests)

-- each row that was encoded, from each typed row
pub each : {X : Type 0} (enc : X → Row) (P : Row → Type 0) (xs : List X) → ((x : X) → Has xs x → P (enc x)) → AllByRecursion P (map enc xs)
each enc P [] all = tt
each enc P (x ∷ xs) all = (all x (inl refl), each enc P xs (λ y there. all y (inr there)))

module _ {X : Type 0} (key : X → ℕ) (p : X → Bool) (x : X) (is : p x ≡ true) where
  some_pass : (ys : List X) → Has ys x → ¬ (filter p ys ≡ [])
  some_pass [] there none = there
  some_pass (y ∷ ys) (inl here) none = let passes : p y ≡ true = ap p (sym here) ∙ is in let it = rw passes at none in cc
  some_pass (y ∷ ys) (inr later) none = elim (cases_Bool (p y)) [
    | inl passes ↦ let it = rw passes at none in cc
    | inr fails ↦ some_pass ys later (rw fails at none)
  ]

  none_other : (ys : List X) → filter p ys ≡ [] → list_any (λ y. p y && not (key y == key x)) ys ≡ false
  none_other [] none = refl
  none_other (y ∷ ys) none = elim (cases_Bool (p y)) [
    | inl passes ↦ absurd (let it = rw passes at none in cc)
    | inr fails ↦ rw fails (none_other ys (rw fails at none))
  ]

  -- where at most one passes, none passes but the one
  alone : (ys : List X) → Has ys x → length (filter p ys) ≤ 1 → list_any (λ y. p y && not (key y == key x)) ys ≡ false
  alone [] there few = absurd there
  alone (y ∷ ys) (inl here) few =
      let passes : p y ≡ true = ap p (sym here) ∙ is in
      let none : filter p ys ≡ [] = nothing_in (filter p ys) (let it = rw passes at few in omega arith) in
      let same : (key y == key x) ≡ true = ap (λ z. key y == key z) here ∙ same_is (key y) in
      rw (passes, same) (none_other ys none)
  alone (y ∷ ys) (inr later) few = elim (cases_Bool (p y)) [
    | inl passes ↦ absurd (some_pass ys later (nothing_in (filter p ys) (let it = rw passes at few in omega arith)))
    | inr fails ↦ rw fails (alone ys later (rw fails at few))
  ]

module _ {X : Type 0} (key : X → ℕ) (tail : X → Row) (o : Order) (places : List ℕ) (test : X → X → Bool) where
  abbrev enc : X → Row
  enc x = Int (pos (key x)) ∷ tail x

  module _ (sees : (x y : X) → agree o places (enc y) places (enc x) ≡ test x y) where
    as_seen : (x : X) (ys : List X) → clashes o places (map enc ys) (enc x) ≡ list_any (λ y. test x y && not (key y == key x)) ys
    as_seen x [] = refl
    as_seen x (y ∷ ys) = rw (sees x y, different_numbers (key y) (key x)) (ap (λ b. (test x y && not (key y == key x)) || b) (as_seen x ys))

    pub unclashed : (xs : List X) (x : X) → Has xs x → test x x ≡ true → length (filter (test x) xs) ≤ 1 → clashes o places (map enc xs) (enc x) ≡ false
    unclashed xs x there self few = as_seen x xs ∙ alone key (test x) x self xs there few
