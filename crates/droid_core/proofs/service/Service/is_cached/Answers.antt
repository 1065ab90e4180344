use Rattle.std.proofs.Common.{IsTrue, subst}
use Rattle.droid_core.proofs.RecentRows.{cached_kept}
use Rattle.droid_core.proofs.service.Service.is_cached.Goals as goal

pub returns-clause-kept : goal.returns-clause-kept
returns-clause-kept c = λ setting history stands is. cached_kept history c.args.self.now.recent.rows.entries c.args.client c.args.number stands.recent (subst IsTrue c.contains.ensures is)
