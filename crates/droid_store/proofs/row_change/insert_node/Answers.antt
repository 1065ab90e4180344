use Rattle.std.proofs.Common.{refl, [], ◌∷◌, pos, FitsSigned, rules}
use Rattle.sqlite.specs.declared.types.Value.TheVariants.{Int, Text}
use Rattle.droid_store.specs.Encoded.{number, state_number}
use Rattle.sqlite.specs.Held.{state}
use Rattle.droid_store_trees.specs.Over.{over_trees}
use Rattle.droid_store.proofs.Clean.{trees_are_clean}
use Rattle.droid_store.specs.declared.statements.TheConstants.{ADD_NODE}
use Rattle.droid_store.proofs.Effects.{stepped, kept_safe}
use Rattle.std.proofs.lemmas.Int.{to_z-of_z}
use Rattle.std.specs.Int.{w64}
use Rattle.droid_store.specs.Nodes.{node_of}
use Rattle.droid_store.proofs.NodeEffects.{adds_node, with_last_node}
use Rattle.droid_store.proofs.MemoryFaults.{in_memory}
use Rattle.droid_store.proofs.MemoryFaultsIn.{runs_out_by, node_params, node_runs_out}
use Rattle.droid_store.proofs.row_change.insert_node.Goals as goal

pub returns-clause-ok : goal.returns-clause-ok
returns-clause-ok c rows =
    let old = state over_trees c.args.tx.now.conn.now in
    let new = state over_trees c.execute.new.self.conn.now in
    let n = c.args.node.now in
    let fits : FitsSigned w64 (pos n.size) = search rules in
    stepped ADD_NODE.now
    (number n.profile ∷ number n.id ∷ number n.parent ∷ Int c.args.modified ∷ number (state_number n.state) ∷ number n.size ∷ number n.piece_size ∷ Text n.name.now ∷ Text n.path.now ∷ [])
    old new c.execute.result rows (with_last_node (node_of c.args.node.now c.args.modified) rows) (rw (c.params-to_sql.ensures, c.params-to_sql-2.ensures, c.params-to_sql-3.ensures, c.params-to_sql-4.ensures, c.params-to_sql-5.ensures, c.params-to_sql-6.ensures, c.params-to_sql-7.ensures, c.params-to_sql-8.ensures, c.params-to_sql-9.ensures, c.signed.ensures, to_z-of_z w64 (pos n.size) fits, c.number.ensures, to_z-of_z w64 c.args.modified c.ranges.modified) at (c.execute.ensures.runs (trees_are_clean c.execute.new.self.conn.now)))
    (adds_node old new c.args.node.now.profile c.args.node.now.id c.args.node.now.parent c.args.modified c.args.node.now.state c.args.node.now.size c.args.node.now.piece_size c.args.node.now.name.now c.args.node.now.path.now rows)

pub returns-clause-err : goal.returns-clause-err
returns-clause-err c rows =
    let old = state over_trees c.args.tx.now.conn.now in
    let new = state over_trees c.execute.new.self.conn.now in
    kept_safe ADD_NODE.now _ old new c.execute.result rows refl (c.execute.ensures.runs (trees_are_clean c.execute.new.self.conn.now))

pub returns-clause-limit : goal.returns-clause-limit
returns-clause-limit c = c.execute.ensures.survives.limit

pub returns-clause-failure : goal.returns-clause-failure
returns-clause-failure c rows keys small =
    let old = state over_trees c.args.tx.now.conn.now in
    let new = state over_trees c.execute.new.self.conn.now in
    let n = c.args.node.now in
    let fits : FitsSigned w64 (pos n.size) = search rules in
    runs_out_by ADD_NODE.now (node_params n.profile n.id n.parent c.args.modified n.state n.size n.piece_size n.name.now n.path.now) old new c.execute.result rows
    (rw (c.params-to_sql.ensures, c.params-to_sql-2.ensures, c.params-to_sql-3.ensures, c.params-to_sql-4.ensures, c.params-to_sql-5.ensures, c.params-to_sql-6.ensures, c.params-to_sql-7.ensures, c.params-to_sql-8.ensures, c.params-to_sql-9.ensures, c.signed.ensures, to_z-of_z w64 (pos n.size) fits, c.number.ensures, to_z-of_z w64 c.args.modified c.ranges.modified) at (c.execute.ensures.runs (trees_are_clean c.execute.new.self.conn.now)))
    (λ err none has h. node_runs_out n.profile n.id n.parent c.args.modified n.state n.size n.piece_size n.name.now n.path.now old new rows err (in_memory c.args.tx.now.conn.now c.execute.new.self.conn.now none) has keys small h)
