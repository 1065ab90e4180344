use Rattle.std.proofs.Common.{refl, arith, rules}
use Rattle.droid_store.specs.Encoded.{number}
use Rattle.droid_store.specs.Kept.{kept}
use Rattle.droid_store.specs.Ranges.{NodeFits}
use Rattle.droid_store.specs.Rows.{child_at}
use Rattle.droid_store.specs.Shown.{shown_id}
use Rattle.droid_store.proofs.FaultsOfReading.{found_fits}
use Rattle.droid_store.proofs.ReadableAfter.{child_readable}
use Rattle.droid_store.proofs.ReportedFaults.{unread, IsShort}
use Rattle.droid_store.proofs.store.Store.child.Goals as goal

pub returns-in_err-get-clause-memory : goal.returns-in_err-get-clause-memory
returns-in_err-get-clause-memory c =
    let rows = kept c.self.inside.conn in
    found_fits shown_id NodeFits (child_at c.args.profile c.args.parent c.args.name.now rows) c.in-Some.row _ (search rules) (λ n at. child_readable c.args.profile c.args.parent c.args.name.now rows n c.self.invariant.4 at)
    (λ n is fits. unread c.from_residual-in_err-get.result c.in-Some.row 0 _ IsShort (number n.id) c.from_residual-in_err-get.ensures.1 c.in_err-get.ensures.named c.in_err-get.ensures.kind (rw is (omega arith)) (rw is refl) (n.id, refl, fits.id))
