use Rattle.std.proofs.Common.{refl}
use Rattle.sqlite.specs.Held.{state}
use Rattle.droid_store_trees.specs.Over.{over_trees}
use Rattle.droid_store.proofs.Clean.{trees_are_clean}
use Rattle.droid_store.specs.declared.statements.TheConstants.{ADD_PROFILE}
use Rattle.droid_store.proofs.Effects.{stepped, kept_safe, adds_profile}
use Rattle.droid_store.specs.Changes.{with_profile}
use Rattle.droid_store.proofs.MemoryFaults.{in_memory}
use Rattle.droid_store.proofs.MemoryFaultsIn.{runs_out_by, profile_params, profile_runs_out}
use Rattle.droid_store.proofs.row_change.insert_profile.Goals as goal

pub returns-clause-ok : goal.returns-clause-ok
returns-clause-ok c rows next =
    let old = state over_trees c.args.tx.now.conn.now in
    let new = state over_trees c.execute.new.self.conn.now in
    stepped ADD_PROFILE.now _ old new c.execute.result rows (with_profile c.args.scan_limit c.args.match_all c.args.hash rows) (rw (c.params-to_sql.ensures, c.params-to_sql-2.ensures, c.params-to_sql-3.ensures, c.params-to_sql-4.ensures, c.kind_number.ensures) at (c.execute.ensures.runs (trees_are_clean c.execute.new.self.conn.now)))
    (adds_profile old new c.args.profile c.args.scan_limit c.args.match_all c.args.hash rows next)

pub returns-clause-err : goal.returns-clause-err
returns-clause-err c rows =
    let old = state over_trees c.args.tx.now.conn.now in
    let new = state over_trees c.execute.new.self.conn.now in
    kept_safe ADD_PROFILE.now _ old new c.execute.result rows refl (c.execute.ensures.runs (trees_are_clean c.execute.new.self.conn.now))

pub returns-clause-limit : goal.returns-clause-limit
returns-clause-limit c = c.execute.ensures.survives.limit

pub returns-clause-failure : goal.returns-clause-failure
returns-clause-failure c rows next keys =
    let old = state over_trees c.args.tx.now.conn.now in
    let new = state over_trees c.execute.new.self.conn.now in
    runs_out_by ADD_PROFILE.now (profile_params c.args.profile c.args.scan_limit c.args.match_all c.args.hash) old new c.execute.result rows
    (rw (c.params-to_sql.ensures, c.params-to_sql-2.ensures, c.params-to_sql-3.ensures, c.params-to_sql-4.ensures, c.kind_number.ensures) at (c.execute.ensures.runs (trees_are_clean c.execute.new.self.conn.now)))
    (λ err none has h. profile_runs_out old new c.args.profile c.args.scan_limit c.args.match_all c.args.hash rows err (in_memory c.args.tx.now.conn.now c.execute.new.self.conn.now none) next has keys h)
