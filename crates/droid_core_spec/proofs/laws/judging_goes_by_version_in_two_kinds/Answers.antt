use Rattle.droid_core_spec.proofs.ByVersion.{same_in_each}
use Rattle.droid_core_spec.proofs.laws.judging_goes_by_version_in_two_kinds.Goals as goal

pub returns : goal.returns
returns c setting world one other request no_file no_finish = same_in_each setting world one other request no_file no_finish
