-- An INSERT, an UPDATE or a DELETE that no rule refuses stops only where no number is left for a row.
use Rattle.std.proofs.Common.{◌≡◌, inl, inr, ℕ, zero, suc, false, List, [], length, Option, Some, None, Err, slice_get, option_map, length-append, ◌∷◌, refl, sym, ap, subst, ◌∙◌, arith}
use Rattle.sqlite_rules.specs.Action.{works, Leads, Writes}
use Rattle.sqlite_rules.specs.Calls.{ids_of}
use Rattle.sqlite_rules.specs.Edit.{taken_by, IsRefused, IsOversized}
use Rattle.sqlite_rules.specs.Lists.{Has}
use Rattle.sqlite_rules.specs.declared.error.Refusal.{Refusal}
use Rattle.sqlite_rules.specs.declared.error.Refusal.TheVariants.{Violates, Mismatch, NoRowid, BadReference, TooDeep}
use Rattle.sqlite_schema.specs.declared.program.Program.{Program}
use Rattle.sqlite_schema.specs.declared.schema.Among.TheVariants.{All}
use Rattle.sqlite_schema.specs.declared.schema.Constraint.TheVariants.{Datatype, NotNull, Check, PrimaryKey, Unique, ForeignKey}
use Rattle.sqlite_schema.specs.declared.schema.Keys.TheVariants.{Enforced}
use Rattle.sqlite_schema.specs.Rules.{Refers}
use Rattle.sqlite.specs.declared.error.Error.{Error}
use Rattle.sqlite.specs.Command.TheVariants.{Insert, Update, Delete}
use Rattle.sqlite.specs.Does.{Does, Concludes, OnRows}
use Rattle.sqlite.specs.Edit.{Edit, edit_of}
use Rattle.sqlite.specs.Effect.{Answers, RefusesQuery, RefusesSource, edit_error}
use Rattle.sqlite.specs.Order.{Row}
use Rattle.sqlite.specs.Rowids.TheVariants.{Chosen, Given}
use Rattle.sqlite.specs.Rows.{Task, Written, Edited, Sourced, Inserts, Updates, Deletes, stamped}
use Rattle.sqlite.specs.Schema.{Schema}
use Rattle.sqlite.specs.Source.TheVariants.{Values}
use Rattle.sqlite.specs.Table.{Table}
use Rattle.sqlite.specs.Term.{Term}
use Rattle.sqlite.specs.Tree.{Trees}
use Rattle.droid_store.specs.MemoryFaults.{IsSure, IsFree}
use Rattle.droid_store.proofs.Inserts.{insert_edit}
use Rattle.droid_store.proofs.Parts.{same_error}

-- ---- one edit

module _ (schema : Schema) (db : Trees) (edit : Edit) (still : works schema Enforced 0 edit.table.tree (taken_by db edit) edit.news ≡ []) (free : IsFree schema db edit)
    (small : (row : Row) → Has edit.news row → ¬ IsOversized schema edit.table row) where
  refused : (why : Refusal) → IsRefused schema Enforced db edit why → why ≡ NoRowid
  refused (Violates Datatype) h = absurd (let both = sym free.typed ∙ h in cc)
  refused (Violates NotNull) h = absurd (let both = sym free.present ∙ h in cc)
  refused (Violates Check) h = absurd (let both = sym free.checked ∙ h in cc)
  refused (Violates PrimaryKey) h = absurd (let both = sym free.fresh ∙ h in cc)
  refused (Violates Unique) h = absurd (h free.unique)
  refused (Violates ForeignKey) h = absurd h
  refused Mismatch h = absurd (let both = sym free.keyed ∙ h in cc)
  refused NoRowid h = refl
  refused BadReference h = absurd (let both = sym free.referred ∙ h in cc)
  refused TooDeep h = absurd h

  settled : (n : ℕ) (next : Trees) (why : Option Refusal) → ¬ Leads schema Enforced n next [] (Err why)
  settled zero next why h = let e = h.1 in cc
  settled (suc n) next why h = absurd (omega (arith, ap length h.2, length-append h.0 (h.1 ∷ [])))

  stops : (why : Option Refusal) → Writes schema Enforced db edit (Err why) → why ≡ Some NoRowid
  stops why (inl (reason, refuses, reported)) = same_error reported ∙ ap Some (refused reason refuses)
  stops why (inr (inl (row, there, big, reported))) = absurd (small row there big)
  stops why (inr (inr (next, done, run))) = absurd (settled run.0 next why (rw still at run.1))

  pub edit_sure : IsSure (Edited schema Enforced db edit)
  edit_sure stop (why, writes, reported) = reported ∙ ap (option_map edit_error) (stops why writes)

-- ---- the end of a statement

concludes_sure : (task : Task) (w : Written) → Refers All task.schema w.trees → IsSure (Concludes task (record { keys = Enforced; in_doubt = false; may_wait = false }) None w)
concludes_sure task w refers stop (inl (why, tested, same)) = absurd (tested.0 refers)
concludes_sure task w refers stop (inr (in_doubt, tested, inl (why, shown, same))) = absurd (let e = shown in cc)
concludes_sure task w refers stop (inr (in_doubt, tested, inr (rows, shown, last))) = absurd (let e = last in cc)

-- ---- statements

module _ (schema : Schema) (place : ℕ) (refers : (db : Trees) → Refers All schema db) (params : Row) (db : Trees) (text : List ℕ) where
  module _ (like : Table) where
    abbrev counted_not : Table
    counted_not = record like { is_counted = false; stamps = record { places = []; terms = []; formats = [] } }

    abbrev insert_task : Task
    insert_task = record { limit = None; keys = Enforced; schema = schema; table = counted_not; params = params }

    module _ (listed : slice_get schema.tables place ≡ Some counted_not) (terms : List Term) (width : ℕ)
        (typed : (e : Error) → ¬ RefusesSource None (record { schema = schema; trees = db }) (stamped counted_not params) (Values terms width) e)
        (edits : IsSure (Edited schema Enforced db (insert_edit db counted_not (stamped counted_not params) terms width))) where
      never_sourced : (stop : Option Error) → ¬ Sourced None (record { schema = schema; trees = db }) (stamped counted_not params) (Values terms width) (Err stop)
      never_sourced None h = h
      never_sourced (Some e) h = typed e h

      inserts : IsSure (Inserts insert_task (Values terms width) db)
      inserts stop (inl (why, sourced, same)) = absurd (never_sourced why sourced)
      inserts stop (inr (rows, given, inl (why, counted, same))) = absurd (let e = counted in cc)
      inserts stop (inr (rows, given, inr (counter, counted, inl (why, wrote, same)))) =
          same_error same ∙ edits why (subst (λ rs. Edited schema Enforced db (edit_of db counted_not [] Chosen 0 rs) (Err why)) given.1 wrote)
      inserts stop (inr (rows, given, inr (counter, counted, inr (mid, wrote, inl (why, counts, same))))) = absurd (let e = counts in cc)
      inserts stop (inr (rows, given, inr (counter, counted, inr (mid, wrote, inr (next, counts, last))))) = absurd (let e = last in cc)

      inserted : IsSure (OnRows insert_task (record { keys = Enforced; in_doubt = false; may_wait = false }) None (Insert place (Values terms width)) db)
      inserted stop (inl (why, wrote, same)) = same_error same ∙ inserts why wrote
      inserted stop (inr (w, wrote, ends)) = concludes_sure insert_task w (refers w.trees) stop ends

      pub insert_sure : IsSure (Does None (record { keys = Enforced; in_doubt = false; may_wait = false }) params (record { schema = schema; trees = db }) text None (Insert place (Values terms width)))
      insert_sure stop does = inserted stop (rw listed at does)

  module _ (table : Table) (listed : slice_get schema.tables place ≡ Some table) (q : Program) (fine : (e : Error) → ¬ RefusesQuery None (record { schema = schema; trees = db }) q params e) where
    abbrev task : Task
    task = record { limit = None; keys = Enforced; schema = schema; table = table; params = params }

    module _ (edits : (rows : List Row) → Answers (record { schema = schema; trees = db }) q params rows → IsSure (Edited schema Enforced db (edit_of db table (ids_of rows) Given 1 rows))) where
      updates : IsSure (Updates task q params db)
      updates stop (inl (None, asked, same)) = absurd asked
      updates stop (inl (Some e, asked, same)) = absurd (fine e asked)
      updates stop (inr (rows, found, inl (why, wrote, same))) = same_error same ∙ edits rows found why wrote
      updates stop (inr (rows, found, inr (next, wrote, last))) = absurd (let e = last in cc)

      updated : IsSure (OnRows task (record { keys = Enforced; in_doubt = false; may_wait = false }) None (Update place q) db)
      updated stop (inl (why, wrote, same)) = same_error same ∙ updates why wrote
      updated stop (inr (w, wrote, ends)) = concludes_sure task w (refers w.trees) stop ends

      pub update_sure : IsSure (Does None (record { keys = Enforced; in_doubt = false; may_wait = false }) params (record { schema = schema; trees = db }) text None (Update place q))
      update_sure stop does = updated stop (rw listed at does)

    module _ (edits : (rows : List Row) → Answers (record { schema = schema; trees = db }) q params rows → IsSure (Edited schema Enforced db (edit_of db table (ids_of rows) Given 0 []))) where
      deletes : IsSure (Deletes task q db)
      deletes stop (inl (None, asked, same)) = absurd asked
      deletes stop (inl (Some e, asked, same)) = absurd (fine e asked)
      deletes stop (inr (rows, found, inl (why, wrote, same))) = same_error same ∙ edits rows found why wrote
      deletes stop (inr (rows, found, inr (next, wrote, last))) = absurd (let e = last in cc)

      deleted : IsSure (OnRows task (record { keys = Enforced; in_doubt = false; may_wait = false }) None (Delete place q) db)
      deleted stop (inl (why, wrote, same)) = same_error same ∙ deletes why wrote
      deleted stop (inr (w, wrote, ends)) = concludes_sure task w (refers w.trees) stop ends

      pub delete_sure : IsSure (Does None (record { keys = Enforced; in_doubt = false; may_wait = false }) params (record { schema = schema; trees = db }) text None (Delete place q))
      delete_sure stop does = deleted stop (rw listed at does)
