-- What the edit of a statement makes of a table's rows: one more at the end, one written again, one taken out.
use Rattle.std.proofs.Common.{◌≡◌, ℕ, ◌/◌, ◌≤◌, pos, List, [], ◌∷◌, ◌++◌, length, map, filter, Bool, not, refl, sym, ap, subst, ◌∙◌, arith}
use Rattle.sqlite.specs.declared.types.Value.TheVariants.{Null, Int}
use Rattle.sqlite.specs.Order.{Row}
use Rattle.sqlite.specs.Term.{Term}
use Rattle.sqlite.specs.Table.{Table}
use Rattle.sqlite.specs.Tree.{Trees, put_row}
use Rattle.sqlite.specs.Cast.{cast_row}
use Rattle.sqlite.specs.Edit.{edit_of, edited}
use Rattle.sqlite.specs.Effect.{value_rows}
use Rattle.sqlite.specs.Rowids.TheVariants.{Chosen, Given}
use Rattle.sqlite_rules.specs.Calls.{ids_of}
use Rattle.sqlite_rules.specs.Edit.{with_rowid}
use Rattle.droid_store.specs.KeyedRows.{AreRising, AreBelow, next_key, changed_where}
use Rattle.droid_store.proofs.AtMostOne.{none_goes, none_changes}
use Rattle.droid_store.proofs.Inserts.{insert_edit}
use Rattle.droid_store.proofs.RowOrder.{put_last, next_is, below_next, one_goes, one_changes}

module _ {X : Type 0} (key : X → ℕ) (tail : X → Row) (db : Trees) (table : Table) (xs : List X) where
  abbrev enc : X → Row
  enc x = Int (pos (key x)) ∷ tail x

  module _ (has : db table.tree ≡ map enc xs) where
    placed : (params : Row) (terms : List Term) (width : ℕ) (values row : Row) → value_rows params width (length terms / width) terms ≡ values ∷ [] → cast_row table values ≡ row
        → edited db (insert_edit db table params terms width) ≡ put_row (with_rowid Chosen (map enc xs) row) (map enc xs)
    placed params terms width values row one stored =
        ap (λ vs. edited db (edit_of db table [] Chosen 0 vs)) one ∙ ap (λ r. put_row (with_rowid Chosen (db table.tree) r) (db table.tree)) stored ∙ ap (λ rows. put_row (with_rowid Chosen rows row) rows) has

    -- an INSERT of one row that gives its rowid, above all others
    pub added : (params : Row) (terms : List Term) (width : ℕ) (values : Row) (x : X) → value_rows params width (length terms / width) terms ≡ values ∷ [] → cast_row table values ≡ enc x → AreBelow key (key x) xs
        → edited db (insert_edit db table params terms width) ≡ map enc (xs ++ x ∷ [])
    added params terms width values x one stored below = placed params terms width values (enc x) one stored ∙ put_last key tail x xs below

    -- an INSERT of one row whose rowid SQL chooses
    pub added_next : (params : Row) (terms : List Term) (width : ℕ) (values : Row) (x : X) → value_rows params width (length terms / width) terms ≡ values ∷ [] → cast_row table values ≡ Null ∷ tail x
        → AreRising key xs → key x ≡ next_key key xs → edited db (insert_edit db table params terms width) ≡ map enc (xs ++ x ∷ [])
    added_next params terms width values x one stored rise next =
        placed params terms width values (Null ∷ tail x) one stored
        ∙ ap (λ id. put_row (Int id ∷ tail x) (map enc xs)) (next_is key tail xs ∙ ap pos (sym next))
        ∙ put_last key tail x xs (subst (λ n. AreBelow key n xs) (sym next) (below_next key tail xs rise))

    module _ (test : X → Bool) (rise : AreRising key xs) (few : length (filter test xs) ≤ 1) where
      -- a DELETE of the row that the test finds, if there is one
      gone : (found : List X) → filter test xs ≡ found → length found ≤ 1 → (rows : List Row) → rows ≡ map (λ x. Int (pos (key x)) ∷ []) found
          → edited db (edit_of db table (ids_of rows) Given 0 []) ≡ map enc (filter (λ x. not (test x)) xs)
      gone [] is few-1 rows rows_are = rw rows_are (has ∙ sym (ap (map enc) (none_goes test xs is)))
      gone (x ∷ []) is few-1 rows rows_are = rw (rows_are, has) (one_goes key tail test x xs rise is)
      gone (x ∷ y ∷ more) is few-1 rows rows_are = absurd (omega arith)

      pub removed : (rows : List Row) → rows ≡ map (λ x. Int (pos (key x)) ∷ []) (filter test xs)
          → edited db (edit_of db table (ids_of rows) Given 0 []) ≡ map enc (filter (λ x. not (test x)) xs)
      removed rows rows_are = gone (filter test xs) refl few rows rows_are

      -- an UPDATE of the row that the test finds, if there is one; the columns hold each typed row as it is
      module _ (change : X → X) (keeps : (x : X) → key (change x) ≡ key x) (stored : (x : X) → cast_row table (enc x) ≡ enc x) where
        again : (found : List X) → filter test xs ≡ found → length found ≤ 1 → (rows : List Row) → rows ≡ map (λ x. Int (pos (key x)) ∷ enc (change x)) found
            → edited db (edit_of db table (ids_of rows) Given 1 rows) ≡ map enc (map (changed_where test change) xs)
        again [] is few-1 rows rows_are = rw rows_are (has ∙ sym (ap (map enc) (none_changes test change xs is)))
        again (x ∷ []) is few-1 rows rows_are = rw (rows_are, stored (change x), has) (one_changes key tail test change keeps x xs rise is)
        again (x ∷ y ∷ more) is few-1 rows rows_are = absurd (omega arith)

        pub written : (rows : List Row) → rows ≡ map (λ x. Int (pos (key x)) ∷ enc (change x)) (filter test xs)
            → edited db (edit_of db table (ids_of rows) Given 1 rows) ≡ map enc (map (changed_where test change) xs)
        written rows rows_are = again (filter test xs) refl few rows rows_are
