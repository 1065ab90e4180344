use Rattle.std.proofs.Common.{refl, [], ◌∷◌}
use Rattle.sqlite.specs.Held.{state}
use Rattle.droid_store_trees.specs.Over.{over_trees}
use Rattle.droid_store.proofs.Clean.{trees_are_clean}
use Rattle.droid_store.specs.declared.statements.TheConstants.{REMOVE_NODE}
use Rattle.droid_store.specs.Changes.{without_node}
use Rattle.droid_store.specs.Encoded.{number}
use Rattle.droid_store.proofs.ChangesNodes.{removes_node}
use Rattle.droid_store.proofs.Effects.{stepped, kept_safe}
use Rattle.droid_store.proofs.MemoryFaults.{in_memory}
use Rattle.droid_store.proofs.MemoryFaultsIn.{runs_out_by}
use Rattle.droid_store.proofs.MemoryFaultsOfChanges.{remove_params, remove_runs_out}
use Rattle.droid_store.proofs.row_change.delete_node.Goals as goal

pub returns-clause-ok : goal.returns-clause-ok
returns-clause-ok c rows apart =
    let old = state over_trees c.args.tx.now.conn.now in
    let new = state over_trees c.execute.new.self.conn.now in
    stepped REMOVE_NODE.now (number c.args.profile ∷ number c.args.file ∷ []) old new c.execute.result rows (without_node c.args.profile c.args.file rows)
    (rw (c.params-to_sql.ensures, c.params-to_sql-2.ensures) at (c.execute.ensures.runs (trees_are_clean c.execute.new.self.conn.now)))
    (λ count has h. removes_node old new c.args.profile c.args.file rows count has apart h)

pub returns-clause-err : goal.returns-clause-err
returns-clause-err c rows =
    let old = state over_trees c.args.tx.now.conn.now in
    let new = state over_trees c.execute.new.self.conn.now in
    kept_safe REMOVE_NODE.now _ old new c.execute.result rows refl (c.execute.ensures.runs (trees_are_clean c.execute.new.self.conn.now))

pub returns-clause-limit : goal.returns-clause-limit
returns-clause-limit c = c.execute.ensures.survives.limit

pub returns-clause-failure : goal.returns-clause-failure
returns-clause-failure c rows keys later =
    let old = state over_trees c.args.tx.now.conn.now in
    let new = state over_trees c.execute.new.self.conn.now in
    runs_out_by REMOVE_NODE.now (remove_params c.args.profile c.args.file) old new c.execute.result rows
    (rw (c.params-to_sql.ensures, c.params-to_sql-2.ensures) at (c.execute.ensures.runs (trees_are_clean c.execute.new.self.conn.now)))
    (λ err none has h. remove_runs_out old new c.args.profile c.args.file rows err (in_memory c.args.tx.now.conn.now c.execute.new.self.conn.now none) has keys later h)
