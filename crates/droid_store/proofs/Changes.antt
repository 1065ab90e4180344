-- What an UPDATE or a DELETE does, whatever the table, where no foreign key acts.
use Rattle.std.proofs.Common.{◌≡◌, ℕ, List, [], Option, Some, None, Ok, slice_get, refl, sym, ap, subst, ◌∙◌, if◌then◌else◌}
use Rattle.sqlite.specs.Order.{Row}
use Rattle.sqlite.specs.Table.{Table}
use Rattle.sqlite.specs.Schema.{Schema}
use Rattle.sqlite.specs.Tree.{Trees}
use Rattle.sqlite.specs.Command.TheVariants.{Update, Delete}
use Rattle.sqlite.specs.Edit.{Edit, edit_of, Applies}
use Rattle.sqlite.specs.Rowids.TheVariants.{Given}
use Rattle.sqlite_rules.specs.Action.{works}
use Rattle.sqlite_rules.specs.Calls.{ids_of}
use Rattle.sqlite_rules.specs.Edit.{taken_by}
use Rattle.sqlite_schema.specs.declared.schema.Keys.TheVariants.{Enforced}
use Rattle.sqlite_schema.specs.declared.program.Program.{Program}
use Rattle.sqlite.specs.Does.{Does}
use Rattle.sqlite.specs.Rows.{Written, Task, Then, Queried, Edited, Gives, Updates, Deletes}
use Rattle.sqlite.specs.Effect.{Database, Answers}
use Rattle.sqlite.specs.Listing.{understood}
use Rattle.sqlite.specs.State.{State, mode_of, Executes, Shows}
use Rattle.sqlite.proofs.Callers.{IsPlain, command_of, statement_of, runs_as, one_step}
use Rattle.droid_store.proofs.Parts.{went, same_value, concluded}

module _ (schema : Schema) (place : ℕ) (table : Table) (listed : slice_get schema.tables place ≡ Some table)
    (no_key : (db : Trees) (edit : Edit) → works schema Enforced 0 edit.table.tree (taken_by db edit) edit.news ≡ []) where
  -- the rows that the query of the statement found, and the edit that they give
  pub record Changed (old new : State) (q : Program) (params : Row) (edit_by : List Row → Edit) : Type 0 where
    pub rows : List Row
    pub found : Answers (record { schema = schema; trees = old.now.trees }) q params rows
    pub schema_is : new.now.schema ≡ schema
    pub applies : Applies schema Enforced old.now.trees (edit_by rows) new.now.trees
    pub shown : Shows old new new.now (if old.in_transaction then old.committed else new.now) old.in_transaction

  -- a query, and then the edit by its rows
  stepped : (limit : Option ℕ) (db : Trees) (q : Program) (params : Row) (edit_by : List Row → Edit) (written : List Row → Trees → Written) (out : Written)
      → ((rows : List Row) (next : Trees) → (written rows next).trees ≡ next)
      → Then (Queried limit (record { schema = schema; trees = db }) q params) (λ rows. Then (Edited schema Enforced db (edit_by rows)) (λ next. Gives (written rows next))) (Ok out)
      → (rows : List Row) × Answers (record { schema = schema; trees = db }) q params rows × Applies schema Enforced db (edit_by rows) out.trees
  stepped limit db q params edit_by written out kept h =
      let found = went h in
      let wrote = went found.2 in
      let trees : out.trees ≡ wrote.0 = ap (λ (it : Written). it.trees) (same_value wrote.2) ∙ kept found.0 wrote.0 in
      (found.0, found.1, subst (Applies schema Enforced db (edit_by found.0)) (sym trees) (one_step schema Enforced db wrote.0 (edit_by found.0) (no_key db (edit_by found.0)) wrote.1))

  pub updates : (sql : List ℕ) (params : Row) (old new : State) (q : Program) (count : ℕ) → old.now.schema ≡ schema → command_of (understood schema sql) ≡ Update place q → IsPlain (understood schema sql)
      → Executes sql params old new (Ok count) → Changed old new q params (λ rows. edit_of old.now.trees table (ids_of rows) Given 1 rows)
  updates sql params old new q count has is plain h =
      let db = old.now.trees in
      let task : Task = record { limit = old.step_limit; keys = Enforced; schema = schema; table = table; params = params } in
      let w = runs_as sql params old new schema has (Update place q) is plain count h in
      let text = statement_of sql (understood schema sql) in
      let does = subst (λ s. Does old.step_limit (mode_of old) params (record old.now { schema = s }) text None (Update place q) (Ok (w.tally, new.now))) has w.changed in
      let done = concluded task (mode_of old) (Updates task q params db) w.tally new.now (rw listed at does) in
      let it = stepped old.step_limit db q params (λ rows. edit_of db table (ids_of rows) Given 1 rows) (λ rows next. record { trees = next; rows = (edit_of db table (ids_of rows) Given 1 rows).news; last = None }) done.0 (λ rows next. refl) done.1 in
      record {
        rows = it.0;
        found = it.1;
        schema_is = ap (λ (d : Database). d.schema) done.2;
        applies = subst (λ (d : Database). Applies schema Enforced db (edit_of db table (ids_of it.0) Given 1 it.0) d.trees) (sym done.2) it.2;
        shown = w.shown;
      }

  pub deletes : (sql : List ℕ) (params : Row) (old new : State) (q : Program) (count : ℕ) → old.now.schema ≡ schema → command_of (understood schema sql) ≡ Delete place q → IsPlain (understood schema sql)
      → Executes sql params old new (Ok count) → Changed old new q params (λ rows. edit_of old.now.trees table (ids_of rows) Given 0 [])
  deletes sql params old new q count has is plain h =
      let db = old.now.trees in
      let task : Task = record { limit = old.step_limit; keys = Enforced; schema = schema; table = table; params = params } in
      let w = runs_as sql params old new schema has (Delete place q) is plain count h in
      let text = statement_of sql (understood schema sql) in
      let does = subst (λ s. Does old.step_limit (mode_of old) params (record old.now { schema = s }) text None (Delete place q) (Ok (w.tally, new.now))) has w.changed in
      let done = concluded task (mode_of old) (Deletes task q db) w.tally new.now (rw listed at does) in
      let it = stepped old.step_limit db q params (λ rows. edit_of db table (ids_of rows) Given 0 []) (λ rows next. record { trees = next; rows = taken_by db (edit_of db table (ids_of rows) Given 0 []); last = None }) done.0 (λ rows next. refl) done.1 in
      record {
        rows = it.0;
        found = it.1;
        schema_is = ap (λ (d : Database). d.schema) done.2;
        applies = subst (λ (d : Database). Applies schema Enforced db (edit_of db table (ids_of it.0) Given 0 []) d.trees) (sym done.2) it.2;
        shown = w.shown;
      }
