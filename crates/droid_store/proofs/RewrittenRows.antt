-- An UPDATE or a DELETE of the row that a test finds, whose typed rows keep the rules: it stops only where no number is left for a row. And a SELECT of one table never overflows.
use Rattle.std.proofs.Common.{◌≡◌, inl, inr, ℕ, ◌≤◌, pos, List, [], ◌∷◌, length, map, filter, nat_lt, Bool, true, false, refl, sym, ap, subst, arith}
use Rattle.sqlite_rules.specs.Action.{works}
use Rattle.sqlite_rules.specs.Calls.{ids_of}
use Rattle.sqlite_rules.specs.Edit.{taken_by, edited, left_by, are_fresh, IsOversized}
use Rattle.sqlite_schema.specs.declared.schema.Constraint.TheVariants.{Datatype, NotNull, Check, Unique}
use Rattle.sqlite_schema.specs.declared.schema.Keys.TheVariants.{Enforced}
use Rattle.sqlite_schema.specs.Rules.{passes, Keeps, references_fit}
use Rattle.sqlite_value.specs.declared.keys.Key.{Key}
use Rattle.sqlite.specs.Cast.{cast_row}
use Rattle.sqlite.specs.declared.types.Value.TheVariants.{Int}
use Rattle.sqlite.specs.Edit.{Edit, edit_of}
use Rattle.sqlite.specs.Order.{Row}
use Rattle.sqlite.specs.Program.{ProgramOverflows}
use Rattle.sqlite.specs.Rowids.TheVariants.{Given}
use Rattle.sqlite.specs.Rows.{Edited}
use Rattle.sqlite.specs.Schema.{Schema}
use Rattle.sqlite.specs.Table.{Table}
use Rattle.sqlite.specs.Term.{Term}
use Rattle.sqlite.specs.Tree.{Trees, with_tree}
use Rattle.droid_store.specs.Queries.{select}
use Rattle.droid_store.specs.MemoryFaults.{IsSure}
use Rattle.droid_store.proofs.FreeEdits.{free_by, small_one, fresh_again}
use Rattle.droid_store.proofs.SureEdits.{edit_sure}

pub never_overflows : (db : Trees) (tree : ℕ) (tests columns : List Term) (order : List (Term × Key)) (params : Row) → ¬ ProgramOverflows db params [] [] (select tree tests columns order)
never_overflows db tree tests columns order params (inl refuses) = refuses
never_overflows db tree tests columns order params (inr some) = some.4

module _ (schema : Schema) (db : Trees) (table : Table) (no_key : (db : Trees) (edit : Edit) → works schema Enforced 0 edit.table.tree (taken_by db edit) edit.news ≡ [])
    (referred : (adds removes : Bool) → references_fit schema table adds removes ≡ true) where
  pub remove_sure : (rows : List Row) → Keeps Unique schema (with_tree db table.tree (edited db (edit_of db table (ids_of rows) Given 0 []))) → IsSure (Edited schema Enforced db (edit_of db table (ids_of rows) Given 0 []))
  remove_sure rows unique =
      let edit = edit_of db table (ids_of rows) Given 0 [] in
      edit_sure schema db edit (no_key db edit) (free_by schema db edit [] refl refl refl refl refl refl (referred false (nat_lt 0 (length edit.gone))) unique) (λ row there. absurd there)

  module _ {X : Type 0} (key : X → ℕ) (tail : X → Row) (xs : List X) (test : X → Bool) (few : length (filter test xs) ≤ 1) (change : X → X) (keeps : (x : X) → key (change x) ≡ key x) where
    abbrev enc : X → Row
    enc x = Int (pos (key x)) ∷ tail x

    module _ (stored : (x : X) → cast_row table (enc x) ≡ enc x) (typed : (x : X) → passes Datatype schema db table (enc x) ≡ true) (present : (x : X) → passes NotNull schema db table (enc x) ≡ true)
        (checked : (x : X) → passes Check schema db table (enc x) ≡ true) (small : (x : X) → filter test xs ≡ x ∷ [] → ¬ IsOversized schema table (enc (change x))) where
      abbrev again : X → Row
      again x = Int (pos (key x)) ∷ enc (change x)

      one : (x : X) → filter test xs ≡ x ∷ [] → Keeps Unique schema (with_tree db table.tree (edited db (edit_of db table (ids_of (again x ∷ [])) Given 1 (again x ∷ []))))
          → IsSure (Edited schema Enforced db (edit_of db table (ids_of (again x ∷ [])) Given 1 (again x ∷ [])))
      one x found unique =
          let edit = edit_of db table (ids_of (again x ∷ [])) Given 1 (again x ∷ []) in
          let news : edit.news ≡ enc (change x) ∷ [] = ap (λ r. r ∷ []) (stored (change x)) in
          let fresh : are_fresh (left_by db edit) (enc (change x) ∷ []) ≡ true = subst (λ n. are_fresh (left_by db edit) ((Int (pos n) ∷ tail (change x)) ∷ []) ≡ true) (sym (keeps x)) (fresh_again (pos (key x)) (tail (change x)) (db table.tree)) in
          edit_sure schema db edit (no_key db edit)
          (free_by schema db edit (enc (change x) ∷ []) news (rw (typed (change x)) refl) (rw (present (change x)) refl) (rw (checked (change x)) refl) fresh refl (referred true true) unique)
          (small_one schema edit (enc (change x)) news (small x found))

      by_found : (found : List X) → filter test xs ≡ found → length found ≤ 1 → (rows : List Row) → rows ≡ map again found → Keeps Unique schema (with_tree db table.tree (edited db (edit_of db table (ids_of rows) Given 1 rows)))
          → IsSure (Edited schema Enforced db (edit_of db table (ids_of rows) Given 1 rows))
      by_found [] is low rows rows_are unique = subst (λ rs. IsSure (Edited schema Enforced db (edit_of db table (ids_of rs) Given 1 rs))) (sym rows_are) (none (subst (λ rs. Keeps Unique schema (with_tree db table.tree (edited db (edit_of db table (ids_of rs) Given 1 rs)))) rows_are unique))
        where
          none : Keeps Unique schema (with_tree db table.tree (edited db (edit_of db table [] Given 1 []))) → IsSure (Edited schema Enforced db (edit_of db table [] Given 1 []))
          none kept =
              let edit = edit_of db table [] Given 1 [] in
              edit_sure schema db edit (no_key db edit) (free_by schema db edit [] refl refl refl refl refl refl (referred false false) kept) (λ row there. absurd there)
      by_found (x ∷ []) is low rows rows_are unique =
          subst (λ rs. IsSure (Edited schema Enforced db (edit_of db table (ids_of rs) Given 1 rs))) (sym rows_are)
          (one x is (subst (λ rs. Keeps Unique schema (with_tree db table.tree (edited db (edit_of db table (ids_of rs) Given 1 rs)))) rows_are unique))
      by_found (x ∷ y ∷ more) is low rows rows_are unique = absurd (omega arith)

      pub rewrite_sure : (rows : List Row) → rows ≡ map again (filter test xs) → Keeps Unique schema (with_tree db table.tree (edited db (edit_of db table (ids_of rows) Given 1 rows)))
          → IsSure (Edited schema Enforced db (edit_of db table (ids_of rows) Given 1 rows))
      rewrite_sure rows rows_are unique = by_found (filter test xs) refl few rows rows_are unique
