use Rattle.std.proofs.Common.{◌≡◌, Some, option_map, subst, rules}
use Rattle.droid_store.specs.Kept.{kept}
use Rattle.droid_store.specs.Rows.{row_of, node_at}
use Rattle.droid_store.proofs.EntryFound.{node_found}
use Rattle.droid_store.specs.Ranges.{NodeFits}
use Rattle.droid_store.specs.Shown.{shown_node}
use Rattle.droid_store.proofs.FaultsOfReading.{found_fits, still_memory}
use Rattle.droid_store.proofs.ReadableAfter.{node_readable}
use Rattle.droid_store.proofs.store.Store.node.Goals as goal

pub returns-clause-found : goal.returns-clause-found
returns-clause-found c =
    let rows = kept c.self.inside.conn in
    subst (λ r. Some c.in_ok-node_of.field-0 ≡ option_map row_of (node_at c.args.profile c.args.id r)) c.self.view_is
    (node_found c.args.profile c.args.id rows c.in-Some.row c.in_ok-node_of.field-0 c.self.invariant.0.holds.words (search rules) c.in_ok-node_of.ensures.read)

pub returns-in_err-node_of-clause-memory : goal.returns-in_err-node_of-clause-memory
returns-in_err-node_of-clause-memory c =
    let rows = kept c.self.inside.conn in
    found_fits shown_node NodeFits (node_at c.args.profile c.args.id rows) c.in-Some.row _ (search rules) (λ n at. node_readable c.args.profile c.args.id rows n c.self.invariant.4 at)
    (λ n is fits. still_memory c.from_residual-in_err-node_of.result _ c.from_residual-in_err-node_of.ensures.1 (c.in_err-node_of.ensures.memory n is fits))
