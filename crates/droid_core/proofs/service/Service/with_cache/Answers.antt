use Rattle.std.proofs.Common.{[], ap, sym, ◌∙◌}
use Rattle.droid_core_spec.specs.Limits.{Limits}
use Rattle.droid_core.specs.declared.holdings.Holdings.{Holdings}
use Rattle.droid_core.proofs.Starting.{starts}
use Rattle.droid_core.proofs.service.Service.with_cache.Goals as goal

pub returns-clause-empty : goal.returns-clause-empty
returns-clause-empty c = λ setting limits registry.
    let holdings : Holdings = record { alloc = c.args.alloc; limits = c.args.limits; registry = c.args.registry; store = c.in_ok-in_memory.field-0; files = c.in_ok-new.field-0 } in
    c.in_ok-of.ensures.stands setting []
    (starts setting holdings limits (record { profiles = c.requires.profiles; nodes = c.requires.nodes; unfinished = c.requires.unfinished }) registry
    c.in_ok-in_memory.ensures.empty c.in_ok-new.ensures.none (c.in_ok-new.ensures.limit ∙ sym (ap (λ (given : Limits). given.unfinished) limits)))
