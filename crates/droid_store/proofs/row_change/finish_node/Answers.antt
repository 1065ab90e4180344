use Rattle.std.proofs.Common.{refl, [], ◌∷◌}
use Rattle.sqlite.specs.declared.types.Value.TheVariants.{Text, Blob}
use Rattle.sqlite.specs.Held.{state}
use Rattle.droid_store_trees.specs.Over.{over_trees}
use Rattle.droid_store.proofs.Clean.{trees_are_clean}
use Rattle.droid_frame.specs.Hashes.{hash_bytes}
use Rattle.droid_store.specs.declared.statements.TheConstants.{FINISH_NODE}
use Rattle.droid_store.specs.Changes.{with_finished}
use Rattle.droid_frame.specs.Fields.{method_number}
use Rattle.droid_store.specs.Encoded.{number, flag, joined}
use Rattle.droid_store.proofs.ChangesNodes.{finishes_node}
use Rattle.droid_store.proofs.Effects.{stepped, kept_safe}
use Rattle.droid_store.proofs.MemoryFaults.{in_memory}
use Rattle.droid_store.proofs.MemoryFaultsIn.{runs_out_by}
use Rattle.droid_store.proofs.MemoryFaultsOfChanges.{finish_params, finish_runs_out}
use Rattle.droid_store.proofs.row_change.finish_node.Goals as goal

pub returns-clause-ok : goal.returns-clause-ok
returns-clause-ok c rows apart puids words is =
    let old = state over_trees c.args.tx.now.conn.now in
    let new = state over_trees c.execute.new.self.conn.now in
    let f = c.args.findings.now in
    stepped FINISH_NODE.now (number c.args.profile ∷ number c.args.file ∷ number (method_number f.method) ∷ flag f.mismatch ∷ Text (joined puids) ∷ Blob (hash_bytes f.hash) ∷ []) old new c.execute.result rows
    (with_finished c.args.profile c.args.file f.method f.mismatch f.hash puids rows)
    (rw (c.params-to_sql.ensures, c.params-to_sql-2.ensures, c.params-to_sql-3.ensures, c.params-to_sql-4.ensures, c.params-to_sql-5.ensures, c.params-to_sql-6.ensures, c.number_of.ensures, c.as_slice.ensures, is) at (c.execute.ensures.runs (trees_are_clean c.execute.new.self.conn.now)))
    (λ count has h. finishes_node old new c.args.profile c.args.file f.method f.mismatch f.hash puids rows count has apart words h)

pub returns-clause-err : goal.returns-clause-err
returns-clause-err c rows =
    let old = state over_trees c.args.tx.now.conn.now in
    let new = state over_trees c.execute.new.self.conn.now in
    kept_safe FINISH_NODE.now _ old new c.execute.result rows refl (c.execute.ensures.runs (trees_are_clean c.execute.new.self.conn.now))

pub returns-clause-limit : goal.returns-clause-limit
returns-clause-limit c = c.execute.ensures.survives.limit

pub returns-clause-failure : goal.returns-clause-failure
returns-clause-failure c rows keys puids is later small =
    let old = state over_trees c.args.tx.now.conn.now in
    let new = state over_trees c.execute.new.self.conn.now in
    let f = c.args.findings.now in
    runs_out_by FINISH_NODE.now (finish_params c.args.profile c.args.file f.method f.mismatch f.hash puids) old new c.execute.result rows
    (rw (c.params-to_sql.ensures, c.params-to_sql-2.ensures, c.params-to_sql-3.ensures, c.params-to_sql-4.ensures, c.params-to_sql-5.ensures, c.params-to_sql-6.ensures, c.number_of.ensures, c.as_slice.ensures, is) at (c.execute.ensures.runs (trees_are_clean c.execute.new.self.conn.now)))
    (λ err none has h. finish_runs_out c.args.profile c.args.file f.method f.mismatch f.hash puids old new rows err (in_memory c.args.tx.now.conn.now c.execute.new.self.conn.now none) has keys later small h)
