use Rattle.droid_core_spec.proofs.Replied.{query_stays}
use Rattle.droid_core_spec.proofs.laws.a_query_changes_nothing.Goals as goal

pub returns : goal.returns
returns c setting history frame request asked queries = query_stays setting history frame request asked queries
