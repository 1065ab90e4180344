-- A call of a database in memory fails only if memory runs out, if no rule can refuse its statement.
use Rattle.std.proofs.Common.{◌≡◌, ◌≢◌, inl, inr, ℕ, ◌||◌, true, false, List, length, Option, Some, None, Result, Ok, Err, is_some, append-nil, refl, sym, ap, subst, subst₂, ◌∙◌, arith}
use Rattle.sqlite_trees.specs.declared.error.StoreError.{StoreError}
use Rattle.sqlite_trees.specs.declared.error.StoreError.TheVariants.{OutOfMemory, Io, Corrupt, Full, Broken, Unstorable}
use Rattle.droid_store_trees.specs.declared.storage.TreeStore.{TreeStore}
use Rattle.sqlite_resolve.specs.declared.compiled.Compiled.{Compiled}
use Rattle.sqlite_resolve.specs.declared.error.CompileError.{CompileError}
use Rattle.sqlite_schema.specs.declared.program.Program.{Program}
use Rattle.sqlite.specs.declared.error.Error.{Error}
use Rattle.sqlite.specs.declared.error.Error.TheVariants.{SqliteFailure, QueryReturnedNoRows}
use Rattle.sqlite.specs.declared.error.ErrorCode.TheVariants as code
use Rattle.sqlite.specs.Clock.{timed}
use Rattle.sqlite.specs.Command.{Command}
use Rattle.sqlite.specs.Command.TheVariants.{Select, Insert, Update, Delete, CreateTable, Begin, Commit, Rollback, Release, RollbackTo}
use Rattle.sqlite.specs.Disk.{MoreFaults}
use Rattle.sqlite.specs.Does.{Does}
use Rattle.sqlite.specs.Effect.{RefusesQuery, RefusesToRead, is_query}
use Rattle.sqlite.specs.Held.{Held, state}
use Rattle.sqlite.specs.Listing.{understood, reads_listing, IsSourceOf}
use Rattle.sqlite.specs.Order.{Row}
use Rattle.sqlite.specs.Schema.{Schema}
use Rattle.sqlite.specs.Source.{Source}
use Rattle.sqlite.specs.State.{State, store_error, HasCause, Fails, mode_of, text_of, is_pragma, shows_rows, IsMisplaced, Escapes, IsNoStatement, IsNotRun, RunsCommand, ExecutesIn, Executes, EndsScope, ExecutesInside, FailsToQuery, FailsToShow, QueriesRow}
use Rattle.sqlite.specs.Steps.{FailsToCommit}
use Rattle.droid_store_trees.specs.Over.{over_trees}
use Rattle.sqlite.proofs.Callers.{IsPlain, command_of, statement_of}
use Rattle.droid_store.specs.MemoryFaults.{IsOutOfMemory, InMemory, IsWhole, IsEdit}

-- ---- a store in memory

no_more : ¬ MoreFaults 0 0
no_more h = absurd (omega arith)

pub in_memory : (old new : Held TreeStore) → old.step_limit ≡ None → InMemory (state over_trees old) (state over_trees new)
in_memory old new none = record { live = refl; sure = no_more; unlimited = none }

by_cause : (old new : State) (too_big : Type 0) (cause : StoreError) → InMemory old new → ¬ too_big → HasCause old new too_big cause → store_error cause ≡ SqliteFailure code.OutOfMemory
by_cause old new too_big OutOfMemory mem small why = refl
by_cause old new too_big Io mem small why = absurd (mem.sure why)
by_cause old new too_big Corrupt mem small why = absurd (mem.sure why)
by_cause old new too_big Full mem small why = absurd (mem.sure why)
by_cause old new too_big Broken mem small why = absurd (let both = sym mem.live ∙ why in cc)
by_cause old new too_big Unstorable mem small why = absurd (small why)

failed : (old new : State) (too_big : Type 0) (e : Error) → InMemory old new → ¬ too_big → Fails old new too_big e → IsOutOfMemory e
failed old new too_big e mem small fails = inl (fails.1 ∙ by_cause old new too_big fails.0 mem small fails.2)

-- the end of a transaction
pub commit_runs_out : (old new : State) (e : Error) → InMemory old new → old.in_transaction ≡ true → FailsToCommit old new e → IsOutOfMemory e
commit_runs_out old new e mem within (inl fails) = failed old new ⊥ e mem (λ no. no) fails
commit_runs_out old new e mem within (inr ended) = absurd (let both = sym within ∙ ended.1 in cc)

-- ---- commands that change rows or tables

unplaced : (s : State) (e : Error) (k : Command) → k ≢ Begin → k ≢ Commit → k ≢ Rollback → ((name : List ℕ) → k ≢ Release name) → ((name : List ℕ) → k ≢ RollbackTo name) → ¬ IsMisplaced s k e
unplaced s e k begin commit rollback release back (inl (reported, inl h)) = begin h.0
unplaced s e k begin commit rollback release back (inl (reported, inr (inl is, out))) = commit is
unplaced s e k begin commit rollback release back (inl (reported, inr (inr is, out))) = rollback is
unplaced s e k begin commit rollback release back (inr (reported, name, inl is, free)) = release name is
unplaced s e k begin commit rollback release back (inr (reported, name, inr is, free)) = back name is

unescaped : (s : State) (k : Command) → k ≢ Commit → k ≢ Rollback → ((name : List ℕ) → k ≢ Release name) → ((name : List ℕ) → k ≢ RollbackTo name) → ¬ Escapes 0 s k
unescaped s k commit rollback release back (inl (inl is)) = commit is
unescaped s k commit rollback release back (inl (inr is)) = rollback is
unescaped s k commit rollback release back (inr (name, inl is, kept)) = release name is
unescaped s k commit rollback release back (inr (name, inr is, kept)) = back name is

edit_by : (k : Command) → (is_query k || (is_pragma k || false)) ≡ false → k ≢ Begin → k ≢ Commit → k ≢ Rollback → ((name : List ℕ) → k ≢ Release name) → ((name : List ℕ) → k ≢ RollbackTo name) → IsEdit k
edit_by k silent begin commit rollback release back =
    record { silent = silent; placed = λ s e. unplaced s e k begin commit rollback release back; stays = λ s. unescaped s k commit rollback release back }

pub insert_is_edit : (at : ℕ) (from : Source) → IsEdit (Insert at from)
insert_is_edit at from = edit_by (Insert at from) refl (λ e. cc) (λ e. cc) (λ e. cc) (λ name e. cc) (λ name e. cc)

pub update_is_edit : (at : ℕ) (q : Program) → IsEdit (Update at q)
update_is_edit at q = edit_by (Update at q) refl (λ e. cc) (λ e. cc) (λ e. cc) (λ name e. cc) (λ name e. cc)

pub delete_is_edit : (at : ℕ) (q : Program) → IsEdit (Delete at q)
delete_is_edit at q = edit_by (Delete at q) refl (λ e. cc) (λ e. cc) (λ e. cc) (λ name e. cc) (λ name e. cc)

pub create_is_edit : IsEdit CreateTable
create_is_edit = edit_by CreateTable refl (λ e. cc) (λ e. cc) (λ e. cc) (λ name e. cc) (λ name e. cc)

-- ---- a text that is one statement

same_some : {A : Type 0} {a b : A} → ◌≡◌ {A = Option A} (Some a) (Some b) → a ≡ b
same_some e = cc

module _ (sql : List ℕ) (params : Row) (old new : State) (schema : Schema) (mem : InMemory old new) (has : old.now.schema ≡ schema) (plain : IsPlain (understood schema sql))
    (whole : IsWhole sql (length params) (understood schema sql)) where
  known : (r : Result Compiled CompileError) → understood old.now.schema sql ≡ r → understood schema sql ≡ r
  known r is = ap (λ s. understood s sql) (sym has) ∙ is

  is_statement : (e : Error) → ¬ IsNoStatement old sql params e
  is_statement e (inl (fault, is, reported)) = subst (IsWhole sql (length params)) (known (Err fault) is) whole
  is_statement e (inr (c, is, inl (longer, reported))) = longer (let it = subst (IsWhole sql (length params)) (known (Ok c) is) whole in omega (arith, it.0))
  is_statement e (inr (c, is, inr (inl (other, reported)))) = other (sym (subst (IsWhole sql (length params)) (known (Ok c) is) whole).1)
  is_statement e (inr (c, is, inr (inr (reads, reported)))) = reads (subst IsPlain (known (Ok c) is) plain).1

  not_run : (e : Error) → IsNotRun old new sql params e → IsOutOfMemory e
  unfolding IsNotRun
  not_run e (inl none) = absurd (is_statement e none.0)
  not_run e (inr fails) = failed old new ⊥ e mem (λ no. no) fails

  -- a query that no listing of the schema answers, and that can't be refused
  module _ (q : Program) (names : List (List ℕ)) (is : command_of (understood schema sql) ≡ Select q names) (unlisted : reads_listing schema sql ≡ false)
      (fine : (e : Error) → ¬ RefusesQuery None (record { schema = schema; trees = old.now.trees }) q params e) where
    pub query_runs_out : (e : Error) → FailsToQuery sql params old new e → IsOutOfMemory e
    unfolding FailsToQuery
    query_runs_out e (inl none) = not_run e none
    query_runs_out e (inr (c, it, why)) =
        let found = known (Ok c) it.is in
        let bare = subst IsPlain found plain in
        let shown = subst (FailsToShow old new sql c (timed params c.formats it.now) e) bare.0 why in
        let db : shown.0 ≡ old.now = subst (λ b. IsSourceOf b old.now shown.0) (ap (λ s. reads_listing s sql) has ∙ unlisted) shown.1 in
        let select : c.command ≡ Select q names = sym (ap command_of found) ∙ is in
        let reported = subst (λ k. RefusesToRead old.step_limit k shown.0 (timed params c.formats it.now) e) select shown.2 in
        let bound = rw (db, bare.1, append-nil params, mem.unlimited) at reported in
        absurd (fine e (subst (λ s. RefusesQuery None (record old.now { schema = s }) q params e) has bound))

    pub row_runs_out : (e : Error) → e ≢ QueryReturnedNoRows → QueriesRow sql params old new (Err e) → IsOutOfMemory e
    unfolding QueriesRow
    row_runs_out e other (inl fails) = query_runs_out e fails
    row_runs_out e other (inr h) = absurd (other h.0)

  -- a change that stops only where no number is left for a row
  module _ (command : Command) (is : command_of (understood schema sql) ≡ command) (edit : IsEdit command)
      (sure : (stop : Option Error) → Does None (mode_of old) params (record { schema = schema; trees = old.now.trees }) (statement_of sql (understood schema sql)) None command (Err stop) → stop ≡ Some (SqliteFailure code.NoRowid)) where
    stops : (c : Compiled) (at : ℕ) → Ok c ≡ understood schema sql → (stop : Option Error)
        → Does old.step_limit (mode_of old) (timed params c.formats at) old.now (text_of sql c) c.returning c.command (Err stop) → stop ≡ Some (SqliteFailure code.NoRowid)
    stops c at found stop does =
        let bare = subst IsPlain (sym found) plain in
        let bound = rw (bare.0, bare.1, append-nil params, mem.unlimited) at does in
        let there = subst₂ (λ k t. Does None (mode_of old) params old.now t None k (Err stop)) (ap command_of found ∙ is) (ap (statement_of sql) found) bound in
        sure stop (subst (λ s. Does None (mode_of old) params (record old.now { schema = s }) (statement_of sql (understood schema sql)) None command (Err stop)) has there)

    ran : (c : Compiled) (at : ℕ) (e : Error) → Ok c ≡ understood schema sql → RunsCommand old new sql c (timed params c.formats at) (Err e) → IsOutOfMemory e
    ran c at e found (inl (inl misplaced, same)) = absurd (edit.placed old e (subst (λ k. IsMisplaced old k e) (ap command_of found ∙ is) misplaced))
    ran c at e found (inl (inr (may, does), same)) = inr (same_some (stops c at found (Some e) does))
    ran c at e found (inr fails) = failed old new _ e mem (λ does. let no = stops c at found None does in cc) fails

    pub executes_runs_out : (e : Error) → Executes sql params old new (Err e) → IsOutOfMemory e
    unfolding ExecutesIn
    executes_runs_out e (inl none) = not_run e none
    executes_runs_out e (inr h) =
        let found = sym (known (Ok h.0) h.1.is) in
        let bare = subst IsPlain (sym found) plain in
        let silent : shows_rows false h.0 ≡ false = subst₂ (λ k r. (is_query k || (is_pragma k || is_some r)) ≡ false) (sym (ap command_of found ∙ is)) (sym bare.0) edit.silent in
        ran h.0 h.1.now e found (rw silent at h.2)

    -- the same in a transaction
    pub inside_runs_out : (e : Error) → ExecutesInside 0 sql params old new (Err e) → IsOutOfMemory e
    unfolding EndsScope
    inside_runs_out e (inl h) = executes_runs_out e h.0
    inside_runs_out e (inr h) =
        let scope = h.0 in
        absurd (edit.stays old (subst (Escapes 0 old) (ap command_of (sym (known (Ok scope.0) scope.1.is)) ∙ is) scope.2))
