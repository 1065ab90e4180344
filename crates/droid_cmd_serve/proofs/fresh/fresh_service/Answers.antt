use Rattle.droid_cmd_serve.proofs.FreshServices.{made_of, not_made_of, read_is, reported_neither}
use Rattle.droid_cmd_serve.proofs.fresh.fresh_service.Goals as goal

pub returns-in-Ok-clause-made : goal.returns-in-Ok-clause-made
returns-in-Ok-clause-made g c =
    let read = read_is (g.F.Read.remaining c.args.file.now) c.in-Ok.registry (λ bytes is. c.in-Ok.ensures.reads bytes is (λ e. absurd cc) (λ e. absurd cc)) in
    made_of (g.F.Read.remaining c.args.file.now) c.in-Ok.registry c.service_with.result read c.service_with.ensures.made

pub returns-in-Ok-clause-not_made : goal.returns-in-Ok-clause-not_made
returns-in-Ok-clause-not_made g c =
    let read = read_is (g.F.Read.remaining c.args.file.now) c.in-Ok.registry (λ bytes is. c.in-Ok.ensures.reads bytes is (λ e. absurd cc) (λ e. absurd cc)) in
    not_made_of (g.F.Read.remaining c.args.file.now) c.in-Ok.registry c.service_with.result read c.service_with.ensures.not_made

pub returns-in-Ok-clause-registry_fault : goal.returns-in-Ok-clause-registry_fault
returns-in-Ok-clause-registry_fault g c = λ sound.
    reported_neither _ _ _ _ (λ e. absurd cc) (λ e. c.service_with.ensures.registry_read _ e) (c.in-Ok.ensures.fault sound)
