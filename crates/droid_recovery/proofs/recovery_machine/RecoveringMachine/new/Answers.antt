use Rattle.std.proofs.Common.{ap, sym, subst, ◌∙◌}
use Rattle.droid_core_spec.specs.Limits.{Limits}
use Rattle.droid_core_spec.specs.Histories.{History}
use Rattle.droid_recovery.proofs.Starting.{starts}
use Rattle.droid_recovery.specs.Recovering.{Recovers}
use Rattle.droid_core.specs.declared.holdings.Holdings.{Holdings}
use Rattle.droid_recovery.proofs.recovery_machine.RecoveringMachine.new.Goals as goal

pub returns-clause-empty : goal.returns-clause-empty
returns-clause-empty c = λ recovery limits registry.
    let holdings : Holdings = record { alloc = c.args.alloc; limits = c.args.limits; registry = c.args.registry; store = c.in_ok-in_memory.field-0; files = c.in_ok-new.field-0 } in
    let started = starts recovery.setting recovery.bare holdings
    (record { limits = limits; allowed = rw limits (record { profiles = c.requires.profiles; nodes = c.requires.nodes; unfinished = c.requires.unfinished }); registry = registry })
    c.in_ok-in_memory.ensures.empty c.in_ok-new.ensures.none (c.in_ok-new.ensures.limit ∙ sym (ap (λ (given : Limits). given.unfinished) limits)) in
    record {
      words = c.see_words.ensures recovery.setting registry;
      recovers = λ history have. subst (λ (h : History). Recovers recovery.setting recovery.bare holdings h) (sym have) started;
    }
