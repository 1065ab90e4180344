-- What a SELECT of one table answers: of each row that meets the tests its columns, in some order.
use Rattle.std.proofs.Common.{◌≡◌, inl, inr, ℕ, ◌≤◌, ◌^◌, List, [], ◌∷◌, length, map, find, filter, nat_le, Bool, Some, None, Option, option_map, refl, ap, subst, ◌∙◌, arith}
use Rattle.std.proofs.lemmas.Bool.{cases_Bool}
use Rattle.std.proofs.lemmas.List.{length-map}
use Rattle.std.proofs.lemmas.List.Sorted.{length_permutation}
use Rattle.std.specs.List.{flat_map, list_all}
use Rattle.std.specs.List.Sorted.{IsPermutation, IsSorted}
use Rattle.std.specs.Option.{option_to_list}
use Rattle.sqlite.specs.declared.types.Value.{Value}
use Rattle.sqlite.specs.declared.types.Value.TheVariants.{Null}
use Rattle.sqlite.specs.Order.{Row}
use Rattle.sqlite.specs.Term.{Term, holds, eval_all}
use Rattle.sqlite.specs.Query.{IsAnswer, IsSureAnswer, Output, output, output_cmp, matches_as, end}
use Rattle.sqlite.specs.Program.{overlay}
use Rattle.sqlite.specs.Tree.{Trees}
use Rattle.sqlite.proofs.Callers.{one_permutation}
use Rattle.sqlite_value.specs.declared.keys.Key.{Key}
use Rattle.droid_store.specs.Queries.{select}
use Rattle.droid_store.proofs.AtMostOne.{nothing_in}

-- ---- lists

pub few_permutation : {X : Type 0} (xs ys : List X) → length xs ≤ 1 → IsPermutation xs ys → ys ≡ xs
few_permutation [] [] few h = refl
few_permutation [] (y ∷ ys) few h = absurd (omega (arith, length_permutation [] (y ∷ ys) h))
few_permutation (x ∷ []) ys few h = one_permutation x ys h
few_permutation (x ∷ z ∷ xs) ys few h = absurd (omega (arith))

-- where at most one passes, the first that passes is all that pass
pub filter_few : {X : Type 0} (p : X → Bool) (xs : List X) → length (filter p xs) ≤ 1 → filter p xs ≡ option_to_list (find p xs)
filter_few p [] few = refl
filter_few p (x ∷ xs) few = elim (cases_Bool (p x)) [
  | inl is ↦ let rest = rw is at few in rw is (ap (λ ys. x ∷ ys) (nothing_in (filter p xs) (omega arith)))
  | inr isnt ↦ rw isnt (filter_few p xs (rw isnt at few))
]

-- the row that is shown of the first that passes
pub shown_option : {X : Type 0} (shown : X → Row) (o : Option X) → map shown (option_to_list o) ≡ option_to_list (option_map shown o)
shown_option shown None = refl
shown_option shown (Some x) = refl

-- no table is computed first
pub overlay_none : (db : Trees) (t : ℕ) → overlay db [] t ≡ db t
overlay_none db t = elim (cases_Bool (nat_le (2 ^ 31) t)) [ inl is ↦ rw is refl | inr isnt ↦ rw isnt refl ]

-- ---- the answer

module _ {X : Type 0} (enc : X → Row) (test : X → Bool) (shown : X → Row) (tree : ℕ) (tests columns : List Term) (order : List (Term × Key)) (params : Row)
    (passes : (x : X) → list_all (holds (params ∷ enc x ∷ [])) tests ≡ test x) (shows : (x : X) → eval_all columns (params ∷ enc x ∷ []) ≡ shown x) where
  -- what a row is sorted by, and what it shows
  abbrev pub output_of : X → Output
  output_of x = (eval_all (map (λ k. k.0) order) (params ∷ enc x ∷ []), shown x)

  outputs : (lost : Value) (db : Trees) (xs : List X)
      → map (output (select tree tests columns order)) (flat_map (λ r. matches_as lost db tests end (params ∷ r ∷ [])) (map enc xs)) ≡ map output_of (filter test xs)
  outputs lost db [] = refl
  outputs lost db (x ∷ xs) = elim (cases_Bool (test x)) [
    | inl is ↦ rw (passes x, is, shows x) (ap (λ os. output_of x ∷ os) (outputs lost db xs))
    | inr isnt ↦ rw (passes x, isnt) (outputs lost db xs)
  ]

  -- the outputs in an order that ORDER BY allows
  pub record Ordered (xs : List X) (out : List Row) : Type 0 where
    pub ordered : List Output
    pub same : IsPermutation (map output_of (filter test xs)) ordered
    pub sorted : IsSorted (output_cmp (select tree tests columns order)) ordered
    pub shown_is : out ≡ map (λ (o : Output). o.1) ordered

  pub answers : (db : Trees) (xs : List X) (out : List Row) → db tree ≡ map enc xs → IsSureAnswer (select tree tests columns order) (overlay db []) params out → Ordered xs out
  answers db xs out has sure =
      let a : IsAnswer (select tree tests columns order) (overlay db []) params out = sure Null in
      let kept : a.kept ≡ map output_of (filter test xs) = a.distinct ∙ ap (map (output (select tree tests columns order))) (a.grouped) ∙ rw (overlay_none db tree, has) (outputs Null (overlay db []) xs) in
      record { ordered = a.ordered; same = subst (λ k. IsPermutation k a.ordered) kept a.same; sorted = a.sorted; shown_is = a.shown }

  shown_outputs : (ys : List X) → map (λ (o : Output). o.1) (map output_of ys) ≡ map shown ys
  shown_outputs [] = refl
  shown_outputs (y ∷ ys) = ap (λ rows. shown y ∷ rows) (shown_outputs ys)

  -- where at most one row meets the tests, it is the answer, whatever the order
  pub selects : (db : Trees) (xs : List X) (out : List Row) → db tree ≡ map enc xs → length (filter test xs) ≤ 1
      → IsSureAnswer (select tree tests columns order) (overlay db []) params out → out ≡ map shown (filter test xs)
  selects db xs out has few sure =
      let a = answers db xs out has sure in
      let is = few_permutation (map output_of (filter test xs)) a.ordered (rw (length-map (filter test xs) output_of) few) a.same in
      a.shown_is ∙ ap (map (λ (o : Output). o.1)) is ∙ shown_outputs (filter test xs)

  pub selects_first : (db : Trees) (xs : List X) (out : List Row) → db tree ≡ map enc xs → length (filter test xs) ≤ 1
      → IsSureAnswer (select tree tests columns order) (overlay db []) params out → out ≡ map shown (option_to_list (find test xs))
  selects_first db xs out has few sure = selects db xs out has few sure ∙ ap (map shown) (filter_few test xs few)
