use Rattle.droid_core.proofs.RecentRows.{none_kept_yet}
use Rattle.droid_core.proofs.service.Service.of.Goals as goal

pub returns-clause-stands : goal.returns-clause-stands
returns-clause-stands c = λ setting history stand.
    record {
      holdings = stand;
      recent = none_kept_yet history c.in_ok-recent.recent.rows.entries c.in_ok-recent.ensures.none;
      last = tt;
    }
