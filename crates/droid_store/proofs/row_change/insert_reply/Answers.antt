use Rattle.std.proofs.Common.{refl, [], ◌∷◌, pos, FitsSigned, rules}
use Rattle.std.proofs.lemmas.Int.{to_z-of_z}
use Rattle.std.specs.Int.{w64}
use Rattle.sqlite.specs.declared.types.Value.TheVariants.{Blob}
use Rattle.droid_store.specs.Encoded.{number}
use Rattle.sqlite.specs.Held.{state}
use Rattle.droid_store_trees.specs.Over.{over_trees}
use Rattle.droid_store.proofs.Clean.{trees_are_clean}
use Rattle.droid_store.specs.declared.statements.TheConstants.{ADD_REPLY}
use Rattle.droid_store.proofs.Effects.{stepped, kept_safe, adds_reply}
use Rattle.droid_store.specs.Changes.{with_reply}
use Rattle.droid_store.proofs.MemoryFaults.{in_memory}
use Rattle.droid_store.proofs.MemoryFaultsIn.{runs_out_by, reply_params, reply_runs_out}
use Rattle.droid_store.proofs.row_change.insert_reply.Goals as goal

pub returns-clause-ok : goal.returns-clause-ok
returns-clause-ok c rows =
    let old = state over_trees c.args.tx.now.conn.now in
    let new = state over_trees c.execute.new.self.conn.now in
    let e = c.args.entry.now in
    let fits : FitsSigned w64 (pos e.number) = search rules in
    stepped ADD_REPLY.now (number e.client ∷ number e.number ∷ number e.version ∷ number e.kind ∷ Blob e.mark ∷ Blob e.body ∷ []) old new c.execute.result rows (with_reply c.args.entry.now rows) (rw (c.params-to_sql.ensures, c.params-to_sql-2.ensures, c.params-to_sql-3.ensures, c.params-to_sql-4.ensures, c.params-to_sql-5.ensures, c.params-to_sql-6.ensures, c.signed.ensures, to_z-of_z w64 (pos e.number) fits, c.from.ensures, c.from-2.ensures, c.as_slice-mark.ensures, c.as_slice-body.ensures.value) at (c.execute.ensures.runs (trees_are_clean c.execute.new.self.conn.now)))
    (adds_reply old new c.args.entry.now rows)

pub returns-clause-err : goal.returns-clause-err
returns-clause-err c rows =
    let old = state over_trees c.args.tx.now.conn.now in
    let new = state over_trees c.execute.new.self.conn.now in
    kept_safe ADD_REPLY.now _ old new c.execute.result rows refl (c.execute.ensures.runs (trees_are_clean c.execute.new.self.conn.now))

pub returns-clause-limit : goal.returns-clause-limit
returns-clause-limit c = c.execute.ensures.survives.limit

pub returns-clause-failure : goal.returns-clause-failure
returns-clause-failure c rows keys small =
    let old = state over_trees c.args.tx.now.conn.now in
    let new = state over_trees c.execute.new.self.conn.now in
    let e = c.args.entry.now in
    let fits : FitsSigned w64 (pos e.number) = search rules in
    runs_out_by ADD_REPLY.now (reply_params c.args.entry.now) old new c.execute.result rows
    (rw (c.params-to_sql.ensures, c.params-to_sql-2.ensures, c.params-to_sql-3.ensures, c.params-to_sql-4.ensures, c.params-to_sql-5.ensures, c.params-to_sql-6.ensures, c.signed.ensures, to_z-of_z w64 (pos e.number) fits, c.from.ensures, c.from-2.ensures, c.as_slice-mark.ensures, c.as_slice-body.ensures.value) at (c.execute.ensures.runs (trees_are_clean c.execute.new.self.conn.now)))
    (λ err none has h. reply_runs_out old new c.args.entry.now rows err (in_memory c.args.tx.now.conn.now c.execute.new.self.conn.now none) has keys small h)
