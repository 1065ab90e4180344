-- What the end of serving many connections says of the program's ending.
use Rattle.std.proofs.Common.{◌≡◌, ◌≢◌, [], Option, Some, None, refl, subst, sym, ◌∙◌}
use Rattle.std.specs.declared.io.ErrorKind.{ErrorKind}
use Rattle.droid_cmd_serve.specs.Fresh.{IsMade, IsNoService, IsUnmade}
use Rattle.droid_cmd_serve.specs.Many.{EndsServing, ManyEndsAs, ServesFresh, many_ending_of}
use Rattle.droid_cmd_serve.specs.declared.exit.Ending.{Ending}
use Rattle.droid_cmd_serve.specs.declared.exit.Ending.TheVariants.{Done, Registry, NoService, Script, Stream, Send, Socket, Journal, BadLine}
use Rattle.droid_turns.specs.Events.{Event}
use Rattle.droid_core_spec.specs.Histories.{History}
use Rattle.droid_wire.specs.ManyConnections.{ServesMany, ServesSome}
use Rattle.droid_core_spec.specs.Setting.{Setting}
use Rattle.droid_core.specs.Standing.{limits_of, registry_of}
use Rattle.droid_core.specs.declared.service.Service.{Service}
use Rattle.droid_wire.specs.declared.serve_fault.ServeFault.TheVariants as serve_faults
use Rattle.droid_turns.specs.declared.rules.Rules.{Rules}
use Rattle.droid_turns.specs.declared.service_end.Served.{Served}
use Rattle.droid_turns.specs.declared.service_end.Served.TheVariants as ways

some_of : {C : Type 0} (does : C → Event → C → Type 0) (rules : Rules) (setting : Setting) (history : History) (connections later : C) (after : Service) (result : Served)
    → ServesMany does rules setting history connections later after result → ServesSome rules setting history after result
some_of does rules setting history connections later after result serves = record { steps = serves.steps; serves = serves.serves; runs = serves.runs }

ends_so : (rules : Rules) (served : Served) → served ≢ ways.Unsettled → ServesFresh rules served → ManyEndsAs rules (many_ending_of served) None
ends_so rules ways.All settled fresh = fresh
ends_so rules ways.Stopped settled fresh = fresh
ends_so rules ways.Memory settled fresh = fresh
ends_so rules ways.Unsettled settled fresh = absurd (settled refl)

-- a fresh service served connections, and the command ends by that
pub ends_serving : {C : Type 0} (does : C → Event → C → Type 0) (rules : Rules) (connections later : C) (before after : Service) (ending ended : Ending) (cause : Option ErrorKind)
    → IsMade before → EndsServing does rules connections later before after ending → limits_of after ≡ limits_of before → registry_of after ≡ registry_of before
    → ended ≡ ending → cause ≡ None → ManyEndsAs rules ended cause
ends_serving {C} does rules connections later before after ending ended cause made ends limits registry is none =
    let fresh : ServesFresh rules ends.served = record {
      registry = made.0;
      after = after;
      serves = λ setting program. some_of does rules setting [] connections later after ends.served (ends.serves setting [] (made.1.stands setting program));
      limits = limits ∙ made.1.limits;
      same_registry = registry ∙ made.1.same_registry;
    } in
    subst (λ (k : Option ErrorKind). ManyEndsAs rules ended k) (sym none)
    (subst (λ (e : Ending). ManyEndsAs rules e None) (sym (is ∙ ends.ends)) (ends_so rules ends.served ends.settled fresh))

-- the port could not be used
pub ends_unused : (rules : Rules) (ended : Ending) (cause : Option ErrorKind) (kind : ErrorKind) → ended ≡ Socket → cause ≡ Some kind → ManyEndsAs rules ended cause
ends_unused rules ended cause kind is named =
    subst (λ (k : Option ErrorKind). ManyEndsAs rules ended k) (sym named) (subst (λ (e : Ending). ManyEndsAs rules e (Some kind)) (sym is) tt)

-- `listening` could not be printed
pub ends_unprinted : (rules : Rules) (ended : Ending) (cause : Option ErrorKind) → ended ≡ Stream (serve_faults.Write 0) → ManyEndsAs rules ended cause
ends_unprinted rules ended cause is = subst (λ (e : Ending). ManyEndsAs rules e cause) (sym is) refl

-- no registry could be read, or no service be made
pub ends_unmade : (rules : Rules) (ended : Ending) (cause : Option ErrorKind) → IsUnmade ended → ManyEndsAs rules ended cause
ends_unmade rules (Registry fault) cause unmade = tt
ends_unmade rules (NoService fault) cause unmade = tt
ends_unmade rules (Script fault) cause unmade = absurd unmade
ends_unmade rules (Stream fault) cause unmade = absurd unmade
ends_unmade rules (Send fault) cause unmade = absurd unmade
ends_unmade rules Socket cause unmade = absurd unmade
ends_unmade rules (Journal fault) cause unmade = absurd unmade
ends_unmade rules BadLine cause unmade = absurd unmade
ends_unmade rules Done cause unmade = absurd unmade

widened : (ending : Ending) → IsNoService ending → IsUnmade ending
widened (NoService fault) none = none
widened (Registry fault) none = absurd none
widened (Script fault) none = none
widened (Stream fault) none = none
widened (Send fault) none = none
widened Socket none = none
widened (Journal fault) none = none
widened BadLine none = none
widened Done none = none

pub unmade_of_no_service : (ending ended : Ending) → ended ≡ ending → IsNoService ending → IsUnmade ended
unmade_of_no_service ending ended is none = subst (λ (e : Ending). IsUnmade e) (sym is) (widened ending none)
