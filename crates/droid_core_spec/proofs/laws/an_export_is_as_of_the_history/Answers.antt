use Rattle.std.proofs.Common.{◌∙◌}
use Rattle.droid_core_spec.specs.Histories.{world_of}
use Rattle.droid_core_spec.proofs.Judged.{exported_as_of}
use Rattle.droid_core_spec.proofs.Legal.{accepted_is_length}
use Rattle.droid_core_spec.proofs.laws.an_export_is_as_of_the_history.Goals as goal

pub returns-clause-accepted : goal.returns-clause-accepted
returns-clause-accepted c setting history legal = accepted_is_length setting history legal

pub returns-clause-part : goal.returns-clause-part
returns-clause-part c setting history version profile from max as_of total filter bytes legal reported =
    exported_as_of setting (world_of setting history) version profile from max as_of total filter bytes reported ∙ accepted_is_length setting history legal
