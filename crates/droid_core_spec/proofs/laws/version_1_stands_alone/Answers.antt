use Rattle.droid_core_spec.proofs.FirstVersion.{world_of_version_1, finish_of_version_1}
use Rattle.droid_core_spec.proofs.laws.version_1_stands_alone.Goals as goal

pub returns-clause-world : goal.returns-clause-world
returns-clause-world c setting frames all = world_of_version_1 setting frames all

pub returns-clause-finish : goal.returns-clause-finish
returns-clause-finish c setting world profile file plain = finish_of_version_1 setting world profile file plain
