use Rattle.droid_core_spec.proofs.Whole.{finished_of_history}
use Rattle.droid_core_spec.proofs.laws.a_finished_file_is_whole.Goals as goal

pub returns : goal.returns
returns c setting history = finished_of_history setting history
