use Rattle.std.proofs.Common.{refl}
use Rattle.sqlite.specs.Held.{state}
use Rattle.droid_store_trees.specs.Over.{over_trees}
use Rattle.droid_store.proofs.Clean.{trees_are_clean}
use Rattle.droid_store.specs.declared.statements.TheConstants.{COUNT_NODES}
use Rattle.droid_store.proofs.Effects.{stepped, kept_safe}
use Rattle.droid_store.proofs.NodeEffects.{counts_nodes, with_counted}
use Rattle.droid_store.proofs.MemoryFaults.{in_memory}
use Rattle.droid_store.proofs.MemoryFaultsIn.{runs_out_by}
use Rattle.droid_store.proofs.MemoryFaultsOfChanges.{count_params, count_runs_out}
use Rattle.droid_store.proofs.row_change.count_nodes.Goals as goal

pub returns-clause-ok : goal.returns-clause-ok
returns-clause-ok c rows =
    let old = state over_trees c.args.tx.now.conn.now in
    let new = state over_trees c.execute.new.self.conn.now in
    stepped COUNT_NODES.now _ old new c.execute.result rows (with_counted c.args.profile c.args.nodes rows) (rw (c.params-to_sql.ensures, c.params-to_sql-2.ensures) at (c.execute.ensures.runs (trees_are_clean c.execute.new.self.conn.now)))
    (counts_nodes old new c.args.profile c.args.nodes rows)

pub returns-clause-err : goal.returns-clause-err
returns-clause-err c rows =
    let old = state over_trees c.args.tx.now.conn.now in
    let new = state over_trees c.execute.new.self.conn.now in
    kept_safe COUNT_NODES.now _ old new c.execute.result rows refl (c.execute.ensures.runs (trees_are_clean c.execute.new.self.conn.now))

pub returns-clause-limit : goal.returns-clause-limit
returns-clause-limit c = c.execute.ensures.survives.limit

pub returns-clause-failure : goal.returns-clause-failure
returns-clause-failure c rows keys =
    let old = state over_trees c.args.tx.now.conn.now in
    let new = state over_trees c.execute.new.self.conn.now in
    runs_out_by COUNT_NODES.now (count_params c.args.profile c.args.nodes) old new c.execute.result rows
    (rw (c.params-to_sql.ensures, c.params-to_sql-2.ensures) at (c.execute.ensures.runs (trees_are_clean c.execute.new.self.conn.now)))
    (λ err none has h. count_runs_out old new c.args.profile c.args.nodes rows err (in_memory c.args.tx.now.conn.now c.execute.new.self.conn.now none) has keys h)
