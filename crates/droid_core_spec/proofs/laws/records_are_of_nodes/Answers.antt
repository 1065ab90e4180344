use Rattle.droid_core_spec.proofs.Recorded.{recorded, is_recorded}
use Rattle.droid_core_spec.proofs.laws.records_are_of_nodes.Goals as goal

pub returns : goal.returns
returns c setting profile shown = (recorded setting profile shown, is_recorded setting profile shown)
