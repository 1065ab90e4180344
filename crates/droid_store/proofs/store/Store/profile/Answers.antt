use Rattle.std.proofs.Common.{rules}
use Rattle.droid_store.specs.Kept.{kept}
use Rattle.droid_store.specs.Ranges.{ProfileFits}
use Rattle.droid_store.specs.Rows.{profile_at}
use Rattle.droid_store.specs.Shown.{shown_profile}
use Rattle.droid_store.proofs.FaultsOfReading.{found_fits, still_memory}
use Rattle.droid_store.proofs.ReadableAfter.{profile_readable}
use Rattle.droid_store.proofs.store.Store.profile.Goals as goal

pub returns-in_err-profile_of-clause-memory : goal.returns-in_err-profile_of-clause-memory
returns-in_err-profile_of-clause-memory c =
    let rows = kept c.self.inside.conn in
    found_fits shown_profile ProfileFits (profile_at c.args.profile rows) c.in-Some.row _ (search rules) (λ p at. profile_readable c.args.profile rows p c.self.invariant.4 at)
    (λ p is fits. still_memory c.from_residual-in_err-profile_of.result _ c.from_residual-in_err-profile_of.ensures.1 (c.in_err-profile_of.ensures.memory p is fits))
