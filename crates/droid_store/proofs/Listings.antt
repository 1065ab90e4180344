-- What a SELECT .. ORDER BY a whole number answers: the rows that meet the tests, in the order of that number.
use Rattle.std.proofs.Common.{◌≡◌, ℕ, ◌+◌, ◌<◌, pos, List, [], ◌∷◌, map, filter, Bool, false, refl, sym, ap, subst, ◌∙◌, arith}
use Rattle.std.proofs.lemmas.Int.{ints}
use Rattle.std.proofs.lemmas.Bool.Decides.{nat_tests}
use Rattle.std.proofs.lemmas.List.{length-map}
use Rattle.std.proofs.Math.ListN.{get_or-map}
use Rattle.std.specs.List.{list_all, slice_index_or}
use Rattle.std.specs.List.Sorted.{IsSorted, IsSortedByKey}
use Rattle.std.specs.Ordering.{is_lt, int_cmp, nat_cmp}
use Rattle.sqlite.specs.declared.types.Value.TheVariants.{Int}
use Rattle.sqlite.specs.Order.{Row, value_cmp}
use Rattle.sqlite.specs.Schema.{Schema}
use Rattle.sqlite.specs.Command.TheVariants.{Select}
use Rattle.sqlite.specs.Term.{Term, holds, eval, eval_all}
use Rattle.sqlite.specs.Query.{Query, IsSureAnswer, Output, output_cmp}
use Rattle.sqlite.specs.Program.{overlay}
use Rattle.sqlite.specs.Tree.{Trees}
use Rattle.sqlite.specs.Effect.{Database}
use Rattle.sqlite.specs.Listing.{understood, reads_listing}
use Rattle.sqlite.specs.State.{State, Shown}
use Rattle.sqlite.proofs.Callers.{IsPlain, command_of, reads_as}
use Rattle.sqlite_value.proofs.OrderLemmas.{value_cmp-Int, then-Equal}
use Rattle.droid_store.specs.KeyedRows.{AreRising}
use Rattle.droid_store.specs.Queries.{select, rising_by}
use Rattle.droid_store.specs.Transactions.{Settled}
use Rattle.droid_store.proofs.Selects.{answers, output_of}
use Rattle.droid_store.proofs.SortedOnce.{unmapped, sorted_once}
use Rattle.droid_store.proofs.Transactions.{settled_unchanged, shown_unchanged}

is_lt_nat : (m n : ℕ) → is_lt (int_cmp (pos m) (pos n)) ≡ is_lt (nat_cmp m n)
is_lt_nat m n = grind (arith, ints, nat_tests)

module _ {X : Type 0} (enc : X → Row) (test : X → Bool) (shown : X → Row) (tree : ℕ) (tests columns : List Term) (by : Term) (key : X → ℕ) (params : Row)
    (passes : (x : X) → list_all (holds (params ∷ enc x ∷ [])) tests ≡ test x) (shows : (x : X) → eval_all columns (params ∷ enc x ∷ []) ≡ shown x)
    (sorts : (x : X) → eval by (params ∷ enc x ∷ []) ≡ Int (pos (key x))) where
  abbrev out_of : X → Output
  out_of = output_of enc test shown tree tests columns (rising_by by) params passes shows

  compares : (x y : X) → is_lt (output_cmp (select tree tests columns (rising_by by)) (out_of x) (out_of y)) ≡ is_lt (nat_cmp (key x) (key y))
  compares x y = rw (sorts x, sorts y) (ap is_lt (then-Equal (value_cmp (Int (pos (key x))) (Int (pos (key y)))) ∙ value_cmp-Int (pos (key x)) (pos (key y))) ∙ is_lt_nat (key x) (key y))

  in_order : (zs : List X) → IsSorted (output_cmp (select tree tests columns (rising_by by))) (map out_of zs) → IsSortedByKey key nat_cmp zs
  in_order zs sorted k d low high =
      sym (compares (slice_index_or zs (k + 1) d) (slice_index_or zs k d))
      ∙ ap (λ o. is_lt (output_cmp (select tree tests columns (rising_by by)) o (out_of (slice_index_or zs k d)))) (sym (get_or-map out_of zs (k + 1) d))
      ∙ ap (λ o. is_lt (output_cmp (select tree tests columns (rising_by by)) (slice_index_or (map out_of zs) (k + 1) (out_of d)) o)) (sym (get_or-map out_of zs k d))
      ∙ sorted k (out_of d) low (subst (λ n. k + 1 < n) (sym (length-map zs out_of)) high)

  shown_outputs : (ys : List X) → map (λ (o : Output). o.1) (map out_of ys) ≡ map shown ys
  shown_outputs [] = refl
  shown_outputs (y ∷ ys) = ap (λ rows. shown y ∷ rows) (shown_outputs ys)

  -- the rows that meet the tests, each once, where the number rises along them
  pub lists : (db : Trees) (xs : List X) (out : List Row) → db tree ≡ map enc xs → AreRising key (filter test xs)
      → IsSureAnswer (select tree tests columns (rising_by by)) (overlay db []) params out → out ≡ map shown (filter test xs)
  lists db xs out has rise sure =
      let a = answers enc test shown tree tests columns (rising_by by) params passes shows db xs out has sure in
      let zs = unmapped out_of (filter test xs) a.ordered a.same in
      let is = sorted_once key (filter test xs) zs.0 rise (in_order zs.0 (subst (IsSorted (output_cmp (select tree tests columns (rising_by by)))) zs.1 a.sorted)) zs.2 in
      a.shown_is ∙ ap (map (λ (o : Output). o.1)) (zs.1 ∙ ap (map out_of) is) ∙ shown_outputs (filter test xs)

-- all rows of an answer: what was there stays, and they are what each answer of the query is
pub reads_rows : (sql : List ℕ) (params : Row) (old new : State) (P : Database → Type 0) (schema : Schema) (q : Query) (names : List (List ℕ)) (wanted : List Row) → Settled old P → old.now.schema ≡ schema
    → command_of (understood schema sql) ≡ Select (record { lets = []; body = q }) names → IsPlain (understood schema sql) → reads_listing schema sql ≡ false
    → ((out : List Row) → IsSureAnswer q (overlay old.now.trees []) params out → out ≡ wanted) → (rows : List Row) → Shown sql params old new rows → Settled new P × (rows ≡ wanted)
reads_rows sql params old new P schema q names wanted has schema_is command plain unlisted answer rows shown = (
  settled_unchanged old new P has (shown_unchanged sql params old new rows (subst (λ s. IsPlain (understood s sql)) (sym schema_is) plain) shown),
  answer rows (reads_as sql params old new schema schema_is _ command plain unlisted rows shown).answer,
)
