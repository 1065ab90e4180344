-- A SELECT of a table whose rows are seen without their rowids.
use Rattle.std.proofs.Common.{◌≡◌, ℕ, ◌<◌, ◌≤◌, pos, List, [], ◌∷◌, length, map, find, filter, Bool, Some, None, Option, option_map, refl, sym, ap, subst, ◌∙◌}
use Rattle.std.proofs.lemmas.List.{length-map}
use Rattle.std.specs.List.{list_all, AllByRecursion}
use Rattle.std.specs.Option.{option_to_list}
use Rattle.sqlite.specs.declared.types.Value.TheVariants.{Int}
use Rattle.sqlite.specs.Order.{Row}
use Rattle.sqlite.specs.Term.{Term, holds, eval, eval_all}
use Rattle.sqlite.specs.Query.{IsSureAnswer}
use Rattle.sqlite.specs.Program.{overlay}
use Rattle.sqlite.specs.Tree.{Trees}
use Rattle.droid_store.specs.KeyedRows.{AreRising}
use Rattle.droid_store.specs.Queries.{select, rising_by}
use Rattle.droid_store.proofs.AtMostOne.{filter_seen, find_seen}
use Rattle.droid_store.proofs.Listings.{lists}
use Rattle.droid_store.proofs.Selects.{selects_first}

pub none_shown : {R : Type 0} (shown : R → Row) (o : Option R) → option_map shown o ≡ None → o ≡ None
none_shown shown None is = refl
none_shown shown (Some r) is = absurd cc

module _ {R : Type 0} where
  abbrev seen : ℕ × R → R
  seen x = x.1

  pub few_seen : (test : R → Bool) (xs : List (ℕ × R)) (rs : List R) → map seen xs ≡ rs → length (filter test rs) ≤ 1 → length (filter (λ x. test (seen x)) xs) ≤ 1
  few_seen test xs rs are few =
      subst (λ n. n ≤ 1) (ap (λ zs. length (filter test zs)) (sym are) ∙ ap length (filter_seen seen test xs) ∙ length-map (filter (λ x. test (seen x)) xs) seen) few

  shown_seen : (shown : R → Row) (o : Option (ℕ × R)) → map (λ x. shown (seen x)) (option_to_list o) ≡ option_to_list (option_map shown (option_map seen o))
  shown_seen shown None = refl
  shown_seen shown (Some x) = refl

  all_seen : (shown : R → Row) (xs : List (ℕ × R)) → map (λ x. shown (seen x)) xs ≡ map shown (map seen xs)
  all_seen shown [] = refl
  all_seen shown (x ∷ xs) = ap (λ rows. shown (seen x) ∷ rows) (all_seen shown xs)

  above_unseen : (key : R → ℕ) (low : ℕ) (xs : List (ℕ × R)) → AllByRecursion (λ r. low < key r) (map seen xs) → AllByRecursion (λ x. low < key (seen x)) xs
  above_unseen key low [] above = tt
  above_unseen key low (x ∷ xs) above = (above.0, above_unseen key low xs above.1)

  rising_unseen : (key : R → ℕ) (xs : List (ℕ × R)) → AreRising key (map seen xs) → AreRising (λ x. key (seen x)) xs
  rising_unseen key [] rise = tt
  rising_unseen key (x ∷ xs) rise = (above_unseen key (key (seen x)) xs rise.0, rising_unseen key xs rise.1)

  module _ (enc : ℕ × R → Row) (test : R → Bool) (shown : R → Row) (tree : ℕ) (tests columns : List Term) (params : Row)
      (passes : (x : ℕ × R) → list_all (holds (params ∷ enc x ∷ [])) tests ≡ test (seen x)) (shows : (x : ℕ × R) → eval_all columns (params ∷ enc x ∷ []) ≡ shown (seen x)) where
    -- the answer of a look-up that at most one row meets
    pub finds_seen : (db : Trees) (xs : List (ℕ × R)) (rs : List R) → db tree ≡ map enc xs → map seen xs ≡ rs → length (filter test rs) ≤ 1
        → (out : List Row) → IsSureAnswer (select tree tests columns []) (overlay db []) params out → out ≡ option_to_list (option_map shown (find test rs))
    finds_seen db xs rs has are few out sure =
        selects_first enc (λ x. test (seen x)) (λ x. shown (seen x)) tree tests columns [] params passes shows db xs out has (few_seen test xs rs are few) sure
        ∙ shown_seen shown (find (λ x. test (seen x)) xs)
        ∙ ap (λ o. option_to_list (option_map shown o)) (sym (find_seen seen test xs) ∙ ap (find test) are)

    -- the answer in the order of a whole number
    pub lists_seen : (by : Term) (key : R → ℕ) → ((x : ℕ × R) → eval by (params ∷ enc x ∷ []) ≡ Int (pos (key (seen x)))) → (db : Trees) (xs : List (ℕ × R)) (rs : List R) → db tree ≡ map enc xs → map seen xs ≡ rs
        → AreRising key (filter test rs) → (out : List Row) → IsSureAnswer (select tree tests columns (rising_by by)) (overlay db []) params out → out ≡ map shown (filter test rs)
    lists_seen by key sorts db xs rs has are rise out sure =
        let same : map seen (filter (λ x. test (seen x)) xs) ≡ filter test rs = sym (filter_seen seen test xs) ∙ ap (filter test) are in
        lists enc (λ x. test (seen x)) (λ x. shown (seen x)) tree tests columns by (λ x. key (seen x)) params passes shows sorts db xs out has
        (rising_unseen key (filter (λ x. test (seen x)) xs) (subst (AreRising key) (sym same) rise)) sure
        ∙ all_seen shown (filter (λ x. test (seen x)) xs) ∙ ap (map shown) same
