use Rattle.std.proofs.Common.{◌∙◌}
use Rattle.std.proofs.lemmas.Int.{to_z-of_z}
use Rattle.std.specs.Int.{w64}
use Rattle.droid_store.proofs.Transactions.{on_err}
use Rattle.droid_store.specs.Nodes.{node_of}
use Rattle.droid_store.proofs.NodeEffects.{with_last_node}
use Rattle.droid_store.proofs.MemoryFaultsOfLookUps.{handed_on}
use Rattle.droid_store.proofs.row_change.add_node.Goals as goal

pub returns-in_err-insert_node-clause-err : goal.returns-in_err-insert_node-clause-err
returns-in_err-insert_node-clause-err c rows saved has = on_err c.from_residual.result _ (c.in_err-insert_node.ensures.err rows saved has)

pub returns-clause-ok : goal.returns-clause-ok
returns-clause-ok c rows saved has = c.count_nodes.ensures.ok (with_last_node (node_of c.args.node.now c.args.modified) rows) saved (rw (to_z-of_z w64 c.args.modified c.ranges.modified) at (c.in_ok-insert_node.ensures.ok rows saved has))

pub returns-clause-err : goal.returns-clause-err
returns-clause-err c rows saved has = c.count_nodes.ensures.err (with_last_node (node_of c.args.node.now c.args.modified) rows) saved (rw (to_z-of_z w64 c.args.modified c.ranges.modified) at (c.in_ok-insert_node.ensures.ok rows saved has))

pub returns-in_err-insert_node-clause-limit : goal.returns-in_err-insert_node-clause-limit
returns-in_err-insert_node-clause-limit c = c.in_err-insert_node.ensures.limit

pub returns-in_err-insert_node-clause-failure : goal.returns-in_err-insert_node-clause-failure
returns-in_err-insert_node-clause-failure c rows keys small saved has none =
    handed_on c.from_residual.result _ c.from_residual.ensures.1 ((rw (to_z-of_z w64 c.args.modified c.ranges.modified) at (c.in_err-insert_node.ensures.failure rows)) keys small saved has none)

pub returns-clause-limit : goal.returns-clause-limit
returns-clause-limit c = c.count_nodes.ensures.limit ∙ c.in_ok-insert_node.ensures.limit

pub returns-clause-failure : goal.returns-clause-failure
returns-clause-failure c rows keys small saved has none =
    c.count_nodes.ensures.failure (with_last_node (node_of c.args.node.now c.args.modified) rows) keys saved (rw (to_z-of_z w64 c.args.modified c.ranges.modified) at (c.in_ok-insert_node.ensures.ok rows saved has)) (c.in_ok-insert_node.ensures.limit ∙ none)
