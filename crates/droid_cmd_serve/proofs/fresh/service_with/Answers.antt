use Rattle.droid_cmd_serve.proofs.fresh.service_with.Goals as goal

pub returns-in-Ok-clause-made : goal.returns-in-Ok-clause-made
returns-in-Ok-clause-made c = record {
  stands = λ setting program. c.in-Ok.ensures.empty setting program.limits program.is_of;
  limits = c.in-Ok.ensures.limits;
  same_registry = c.in-Ok.ensures.registry;
}
