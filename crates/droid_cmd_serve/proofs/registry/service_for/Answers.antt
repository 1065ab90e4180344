use Rattle.droid_cmd_serve.proofs.ManyEndings.{unmade_of_no_service}
use Rattle.droid_cmd_serve.proofs.registry.service_for.Goals as goal

pub returns-in-Ok-clause-made : goal.returns-in-Ok-clause-made
returns-in-Ok-clause-made g c = (c.in_ok-registry.registry, c.in-Ok.ensures.made)

pub returns-in-Err-clause-unmade : goal.returns-in-Err-clause-unmade
returns-in-Err-clause-unmade g c = unmade_of_no_service c.in-Err.ending c.over.result.ending c.over.ensures.ending c.in-Err.ensures.not_made
