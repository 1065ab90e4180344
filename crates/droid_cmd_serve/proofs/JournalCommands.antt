-- What the end of serving by a service with a journal says of the program's ending.
use Rattle.std.proofs.Common.{◌≡◌, ℕ, List, Option, Some, None, refl, sym, subst, ◌∙◌}
use Rattle.std.specs.declared.io.ErrorKind.{ErrorKind}
use Rattle.droid_cmd_serve.specs.Fresh.{IsNotMadeOf, IsUnmade}
use Rattle.droid_cmd_serve.specs.JournalEndings.{IsAnsweringEnd, IsUnopened, JournalEndsAs, ServesSteps, journal_ending_of, left_ending_of, stream_journal_ending_of, unsettled_ending}
use Rattle.droid_cmd_serve.specs.declared.exit.Ending.{Ending}
use Rattle.droid_cmd_serve.specs.declared.exit.Ending.TheVariants.{Done, Registry, NoService, Script, Stream, Send, Socket, Journal, BadLine}
use Rattle.droid_journal.specs.declared.journal_fault.Fault.{Fault}
use Rattle.droid_wire.specs.declared.serve_fault.ServeFault.TheVariants as serve_faults
use Rattle.droid_turns.specs.declared.departure.Departure.{Departure}
use Rattle.droid_turns.specs.declared.departure.Departure.TheVariants as departures
use Rattle.droid_turns.specs.declared.rules.Rules.{Rules}
use Rattle.droid_turns.specs.declared.service_end.Served.{Served}
use Rattle.droid_turns.specs.declared.service_end.Served.TheVariants as ways

unsettled : (rules : Rules) (fault : Option Fault) → JournalEndsAs rules (journal_ending_of ways.Unsettled fault) None
unsettled rules None = tt
unsettled rules (Some fault) = tt

ends_so : (rules : Rules) (served : Served) (fault : Option Fault) → ServesSteps rules served → JournalEndsAs rules (journal_ending_of served fault) None
ends_so rules ways.All fault serves = serves
ends_so rules ways.Stopped fault serves = serves
ends_so rules ways.Memory fault serves = serves
ends_so rules ways.Unsettled fault serves = unsettled rules fault

-- connections were served, and the command ends by that
pub ends_serving : (rules : Rules) (served : Served) (fault : Option Fault) (ending ended : Ending) (cause : Option ErrorKind) → ServesSteps rules served → ending ≡ journal_ending_of served fault → ended ≡ ending → cause ≡ None
    → JournalEndsAs rules ended cause
ends_serving rules served fault ending ended cause serves ends is none =
    subst (λ (k : Option ErrorKind). JournalEndsAs rules ended k) (sym none) (subst (λ (e : Ending). JournalEndsAs rules e None) (sym (is ∙ ends)) (ends_so rules served fault serves))

-- the port could not be used
pub ends_unused : (rules : Rules) (ended : Ending) (cause : Option ErrorKind) (kind : ErrorKind) → ended ≡ Socket → cause ≡ Some kind → JournalEndsAs rules ended cause
ends_unused rules ended cause kind is named =
    subst (λ (k : Option ErrorKind). JournalEndsAs rules ended k) (sym named) (subst (λ (e : Ending). JournalEndsAs rules e (Some kind)) (sym is) tt)

-- `listening` could not be printed
pub ends_unprinted : (rules : Rules) (ended : Ending) (cause : Option ErrorKind) → ended ≡ Stream (serve_faults.Write 0) → JournalEndsAs rules ended cause
ends_unprinted rules ended cause is = subst (λ (e : Ending). JournalEndsAs rules e cause) (sym is) refl

-- no journal could be opened
pub ends_unopened : (rules : Rules) (ended : Ending) (cause : Option ErrorKind) → IsUnopened ended → JournalEndsAs rules ended cause
ends_unopened rules (Registry fault) cause unopened = tt
ends_unopened rules (NoService fault) cause unopened = tt
ends_unopened rules (Journal fault) cause unopened = tt
ends_unopened rules (Script fault) cause unopened = absurd unopened
ends_unopened rules (Stream fault) cause unopened = absurd unopened
ends_unopened rules (Send fault) cause unopened = absurd unopened
ends_unopened rules Socket cause unopened = absurd unopened
ends_unopened rules BadLine cause unopened = absurd unopened
ends_unopened rules Done cause unopened = absurd unopened

not_made : (file : Option (List ℕ)) (ending : Ending) → IsNotMadeOf file ending → IsUnopened ending
not_made file (Registry fault) not = tt
not_made file (NoService fault) not = tt
not_made file (Journal fault) not = tt
not_made file (Script fault) not = absurd not.0
not_made file (Stream fault) not = absurd not.0
not_made file (Send fault) not = absurd not.0
not_made file Socket not = absurd not.0
not_made file BadLine not = absurd not.0
not_made file Done not = absurd not.0

pub unopened_unmade : (file : Option (List ℕ)) (ending ended : Ending) → ended ≡ ending → IsNotMadeOf file ending → IsUnopened ended
unopened_unmade file ending ended is not = subst (λ (e : Ending). IsUnopened e) (sym is) (not_made file ending not)

left_so : (departure : Option Departure) → IsAnsweringEnd (left_ending_of departure)
left_so None = tt
left_so (Some departures.Closed) = tt
left_so (Some departures.Enough) = tt
left_so (Some (departures.Frame fault)) = tt
left_so (Some departures.Memory) = tt
left_so (Some departures.Write) = tt
left_so (Some departures.Idle) = tt
left_so (Some departures.Stopped) = tt
left_so (Some departures.Unsettled) = tt

unsettled_so : (fault : Option Fault) → IsAnsweringEnd (unsettled_ending fault)
unsettled_so None = tt
unsettled_so (Some fault) = tt

stream_so : (served : Served) (departure : Option Departure) (fault : Option Fault) → IsAnsweringEnd (stream_journal_ending_of served departure fault)
stream_so ways.All departure fault = left_so departure
stream_so ways.Stopped departure fault = tt
stream_so ways.Memory departure fault = tt
stream_so ways.Unsettled departure fault = unsettled_so fault

-- a stream was answered, and the command ends by that
pub ends_answering : (served : Served) (departure : Option Departure) (fault : Option Fault) (ending ended : Ending) → ending ≡ stream_journal_ending_of served departure fault → ended ≡ ending → IsAnsweringEnd ended
ends_answering served departure fault ending ended ends is = subst IsAnsweringEnd (sym (is ∙ ends)) (stream_so served departure fault)

-- no journal could be opened
pub unopened_so : (ended : Ending) → IsUnopened ended → IsAnsweringEnd ended
unopened_so (Registry fault) unopened = tt
unopened_so (NoService fault) unopened = tt
unopened_so (Journal fault) unopened = tt
unopened_so (Script fault) unopened = absurd unopened
unopened_so (Stream fault) unopened = absurd unopened
unopened_so (Send fault) unopened = absurd unopened
unopened_so Socket unopened = absurd unopened
unopened_so BadLine unopened = absurd unopened
unopened_so Done unopened = absurd unopened

-- no service could be made
pub unmade_so : (ended : Ending) → IsUnmade ended → IsAnsweringEnd ended
unmade_so (Registry fault) unmade = tt
unmade_so (NoService fault) unmade = tt
unmade_so (Journal fault) unmade = absurd unmade
unmade_so (Script fault) unmade = absurd unmade
unmade_so (Stream fault) unmade = absurd unmade
unmade_so (Send fault) unmade = absurd unmade
unmade_so Socket unmade = absurd unmade
unmade_so BadLine unmade = absurd unmade
unmade_so Done unmade = absurd unmade
