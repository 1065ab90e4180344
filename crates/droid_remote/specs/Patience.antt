-- How a request is sent again while the service has no place for another unfinished file.
use Rattle.std.specs.Prelude.{◌≡◌, ◌⊎◌, ℕ, ◌≤◌, true, false, List, [], ◌∷◌, ◌++◌, length}
use Rattle.std.specs.List.{AllByRecursion}
use Rattle.droid_frame.specs.declared.frame.Frame.{Frame}
use Rattle.droid_frame.specs.declared.reply.Reply.{Reply}
use Rattle.droid_remote.specs.Answering.{IsAnswered, IsTaken}
use Rattle.droid_remote.specs.Calls.{Fails, IsAmong, Waits, Wherever}
use Rattle.droid_remote.specs.Events.{Event, Fact, Started, facts_after}
use Rattle.droid_remote.specs.Moves.{Goes}
use Rattle.droid_remote.specs.Stages.{StandsOn}
use Rattle.droid_remote.specs.declared.transfer.in_flight.InFlight.{InFlight}
use Rattle.droid_remote.specs.declared.transfer.known_requests.KnownRequests.{KnownRequests}
use Rattle.droid_remote.specs.declared.transfer.transfer_fault.TransferFault.{TransferFault}
use Rattle.droid_remote.specs.declared.transfer.transfer_fault.TransferFault.TheVariants.{Memory}
use Rattle.droid_remote.specs.SenderCalls.{is_busy}

-- a frame could not be copied, or its copy got no reply
abbrev pub MissesCopy : {C : Type 0} → (C → Event → C → Type 0) → KnownRequests → Frame → TransferFault → List Fact
    → InFlight C → InFlight C → Type 0
MissesCopy does known frame fault facts old new =
    ((fault ≡ Memory) × (new ≡ old))
    ⊎ Fails does known (IsAmong old.waiting.items frame) old.waiting.items fault facts old new

-- the service said that it has no place
pub record HasNoPlace {C : Type 0} (does : C → Event → C → Type 0) (frame : Frame) (old new : InFlight C) : Type 0 where
  pub reply : Reply
  pub busy : is_busy reply ≡ true
  pub waits : Wherever old (λ known facts. Waits does known frame reply facts old new)

-- another reply came
pub record HasPlace {C : Type 0} (does : C → Event → C → Type 0) (frame : Frame) (reply : Reply) (old new : InFlight C)
    : Type 0 where
  pub free : is_busy reply ≡ false
  pub waits : Wherever old (λ known facts. Waits does known frame reply facts old new)

-- The service said that it has no place; then the time that may be waited was started, and at least this many events
-- followed. Nothing is in flight.
pub record Pausing {C : Type 0} (does : C → Event → C → Type 0) (known : KnownRequests) (frame : Frame) (turns : ℕ)
    (facts : List Fact) (old now : InFlight C) : Type 0 where
  pub goes : Goes does known (IsAmong old.waiting.items frame) facts old.connection now.connection
  pub before : List Event
  pub later : List Event
  pub cut : goes.events ≡ before ++ Started ∷ later
  pub reply : Reply
  pub busy : is_busy reply ≡ true
  pub answered : IsAnswered known facts before frame reply
  pub counted : turns ≤ length later
  pub taken : AllByRecursion (IsTaken known facts goes.events) old.waiting.items
  pub none : now.waiting.items ≡ []
  pub stands_on : StandsOn known (facts_after facts goes.events) now
