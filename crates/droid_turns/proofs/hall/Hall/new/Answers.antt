use Rattle.std.proofs.Common.{refl}
use Rattle.droid_turns.specs.declared.hall.Hall.{Hall}
use Rattle.droid_turns.proofs.HallSteps.{at_rest_none}
use Rattle.droid_turns.proofs.hall.Hall.new.Goals as goal

pub returns-clause-empty : goal.returns-clause-empty
returns-clause-empty c = λ rules.
    let hall : Hall = record { waiting = c.in_ok-with_capacity.field-0; served = c.in_ok-with_capacity-2.field-0; opened = 0; time = 0; frames = 0; share = 64 } in
    at_rest_none rules hall refl refl c.in_ok-with_capacity.ensures.items c.in_ok-with_capacity-2.ensures.items
