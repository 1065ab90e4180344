-- Once each bare file has ended, recovered holdings are in the world of the history.
use Rattle.std.proofs.Common.{subst}
use Rattle.droid_recovery.proofs.BareEnds.{ended_same}
use Rattle.droid_recovery.specs.BareWorlds.{Bare, HaveEnded}
use Rattle.droid_recovery.specs.Recovering.{Recovers}
use Rattle.droid_core_spec.specs.Histories.{History, world_of}
use Rattle.droid_core_spec.specs.Setting.{Setting}
use Rattle.droid_core_spec.specs.World.{World}
use Rattle.droid_core.specs.HoldingsStanding.{IsIn}
use Rattle.droid_core.specs.declared.holdings.Holdings.{Holdings}

pub in_whole_world : (setting : Setting) (bare : Bare) (holdings : Holdings) (history : History) → Recovers setting bare holdings history → HaveEnded bare (world_of setting history) → IsIn setting (world_of setting history) holdings
in_whole_world setting bare holdings history recovers ended =
    subst (λ (world : World). IsIn setting world holdings) (ended_same bare (world_of setting history) ended) recovers.world
