-- A service that is made with a registry that was read.
use Rattle.std.proofs.Common.{◌≡◌, ℕ, List, Option, Some, None, Result, Ok, Err, IfOk, IfErr, IfSome, refl}
use Rattle.droid_core.specs.declared.service.Service.{Service}
use Rattle.droid_cmd_serve.specs.Fresh.{IsMadeOf, IsMadeWith, IsNoService, IsNotMadeOf}
use Rattle.droid_cmd_serve.specs.declared.exit.Ending.{Ending}
use Rattle.droid_cmd_serve.specs.declared.exit.Ending.TheVariants.{Done, Registry, NoService, Script, Stream, Send, Socket, Journal, BadLine}
use Rattle.droid_pronom.specs.Registry.{Contents}
use Rattle.droid_pronom.specs.RegistryFile.{File}
use Rattle.droid_frame.specs.declared.io.stream_record.Seen.{Seen}
use Rattle.droid_frame.specs.Seen.{ReportsFault}

pub read_is : (file : Option (List ℕ)) (registry : Contents) → ((bytes : List ℕ) → file ≡ Some bytes → File bytes (Ok registry)) → IfSome file (λ bytes. File bytes (Ok registry))
read_is None registry read = tt
read_is (Some bytes) registry read = read bytes refl

pub made_of : (file : Option (List ℕ)) (registry : Contents) (r : Result Service Ending) → IfSome file (λ bytes. File bytes (Ok registry)) → IfOk r (IsMadeWith registry) → IfOk r (IsMadeOf file)
made_of file registry (Ok service) read made = record { registry = registry; is_read = read; made = made }
made_of file registry (Err ending) read made = tt

-- an ending that says that no service could be made
unmade_of : (file : Option (List ℕ)) (registry : Contents) (ending : Ending) → IfSome file (λ bytes. File bytes (Ok registry)) → IsNoService ending → IsNotMadeOf file ending
unmade_of file registry (NoService fault) read none = (none, registry, read)
unmade_of file registry (Registry fault) read none = absurd none
unmade_of file registry (Script fault) read none = absurd none
unmade_of file registry (Stream fault) read none = absurd none
unmade_of file registry (Send fault) read none = absurd none
unmade_of file registry Socket read none = absurd none
unmade_of file registry (Journal fault) read none = absurd none
unmade_of file registry BadLine read none = absurd none
unmade_of file registry Done read none = absurd none

pub not_made_of : (file : Option (List ℕ)) (registry : Contents) (r : Result Service Ending) → IfSome file (λ bytes. File bytes (Ok registry)) → IfErr r IsNoService → IfErr r (IsNotMadeOf file)
not_made_of file registry (Ok service) read none = tt
not_made_of file registry (Err ending) read none = unmade_of file registry ending read none

-- neither of two faults came
pub reported_neither : (start : ℕ) (seen : Seen) (P Q : Type 0) → (P → ⊥) → (Q → ⊥) → ReportsFault start seen P → ReportsFault start seen Q
reported_neither start seen P Q not_p not_q reported = record { fault = λ q. absurd (not_q q); otherwise = λ _. reported.otherwise not_p }

-- one fault came exactly where another did
pub reported_alike : (start : ℕ) (seen : Seen) (P Q : Type 0) → (P → Q) → (Q → P) → ReportsFault start seen P → ReportsFault start seen Q
reported_alike start seen P Q to of reported = record { fault = λ q. reported.fault (of q); otherwise = λ not. reported.otherwise (λ p. not (to p)) }
