-- What an INSERT of VALUES does, whatever the table, where no rowid is counted and no foreign key acts.
use Rattle.std.proofs.Common.{if◌then◌else◌, ◌≡◌, ℕ, ◌/◌, List, [], length, Option, Some, None, Ok, slice_get, refl, sym, ap, subst, ◌∙◌, false}
use Rattle.sqlite.specs.Order.{Row}
use Rattle.sqlite.specs.Term.{Term}
use Rattle.sqlite.specs.Table.{Table}
use Rattle.sqlite.specs.Schema.{Schema}
use Rattle.sqlite.specs.Tree.{Trees}
use Rattle.sqlite.specs.Source.TheVariants.{Values}
use Rattle.sqlite.specs.Command.TheVariants.{Insert}
use Rattle.sqlite.specs.Edit.{Edit, edit_of, Applies}
use Rattle.sqlite.specs.Rowids.TheVariants.{Chosen}
use Rattle.sqlite_rules.specs.Action.{works}
use Rattle.sqlite_rules.specs.Edit.{taken_by}
use Rattle.sqlite_schema.specs.declared.schema.Keys.TheVariants.{Enforced}
use Rattle.sqlite.specs.Does.{Tally, Does}
use Rattle.sqlite.specs.Rows.{Written, Inserts, Task, stamped}
use Rattle.sqlite.specs.Effect.{Database, value_rows}
use Rattle.sqlite.specs.Listing.{understood}
use Rattle.sqlite.specs.State.{State, mode_of, Executes, Shows}
use Rattle.sqlite.proofs.Callers.{IsPlain, command_of, statement_of, runs_as, one_step}
use Rattle.droid_store.proofs.Parts.{same_value, went, concluded}

-- the edit that the statement asks for
abbrev pub insert_edit : Trees → Table → Row → List Term → ℕ → Edit
insert_edit db table params terms width = edit_of db table [] Chosen 0 (value_rows params width (length terms / width) terms)

module _ (schema : Schema) (place : ℕ) (like : Table) where
  abbrev table : Table
  table = record like { is_counted = false; stamps = record { places = []; terms = []; formats = [] } }

  module _ (listed : slice_get schema.tables place ≡ Some table) (no_key : (db : Trees) (edit : Edit) → edit.gone ≡ [] → works schema Enforced 0 edit.table.tree (taken_by db edit) edit.news ≡ []) where
    made : (limit : Option ℕ) (params : Row) (db : Trees) (text : List ℕ) (terms : List Term) (width : ℕ) (tally : Tally) (after : Database)
        → Does limit (record { keys = Enforced; in_doubt = false; may_wait = false }) params (record { schema = schema; trees = db }) text None (Insert place (Values terms width)) (Ok (tally, after))
        → (after.schema ≡ schema) × Applies schema Enforced db (insert_edit db table (stamped table params) terms width) after.trees
    made limit params db text terms width tally after h =
        let task : Task = record { limit = limit; keys = Enforced; schema = schema; table = table; params = params } in
        let done = concluded task (record { keys = Enforced; in_doubt = false; may_wait = false }) (Inserts task (Values terms width) db) tally after (rw listed at h) in
        let given = went done.1 in
        let counter = went given.2 in
        let wrote = went counter.2 in
        let counts = went wrote.2 in
        let trees : after.trees ≡ wrote.0 = ap (λ (d : Database). d.trees) done.2 ∙ ap (λ (it : Written). it.trees) (same_value counts.2) ∙ same_value counts.1 in
        let edit = edit_of db table [] Chosen 0 given.0 in
        let step = one_step schema Enforced db wrote.0 edit (no_key db edit refl) wrote.1 in
        let same : given.0 ≡ value_rows (stamped table params) width (length terms / width) terms = given.1.1 in
        (ap (λ (d : Database). d.schema) done.2, subst (λ rows. Applies schema Enforced db (edit_of db table [] Chosen 0 rows) after.trees) same (subst (Applies schema Enforced db edit) (sym trees) step))

    pub inserts : (sql : List ℕ) (params : Row) (old new : State) (terms : List Term) (width count : ℕ) → old.now.schema ≡ schema
        → command_of (understood schema sql) ≡ Insert place (Values terms width) → IsPlain (understood schema sql) → Executes sql params old new (Ok count)
        → (new.now.schema ≡ schema) × Applies schema Enforced old.now.trees (insert_edit old.now.trees table (stamped table params) terms width) new.now.trees
        × Shows old new new.now (if old.in_transaction then old.committed else new.now) old.in_transaction
    inserts sql params old new terms width count has is plain h =
        let command = Insert place (Values terms width) in
        let w = runs_as sql params old new schema has command is plain count h in
        let text = statement_of sql (understood schema sql) in
        let it = made old.step_limit params old.now.trees text terms width w.tally new.now
        (subst (λ s. Does old.step_limit (mode_of old) params (record old.now { schema = s }) text None command (Ok (w.tally, new.now))) has w.changed) in
        (it.0, it.1, w.shown)
