-- What the calls of `InFlight` do. Each speaks of the requests that are known and the facts that stand before it, so
-- that calls compose without a history: a fresh `InFlight` begins with `nothing_known` and no facts.
use Rattle.std.specs.Prelude.{◌≡◌, ◌⊎◌, ◌≤◌, List, [], ◌∷◌, ◌++◌, Contains, length}
use Rattle.std.specs.List.{AllByRecursion}
use Rattle.droid_frame.specs.declared.frame.Frame.{Frame}
use Rattle.droid_frame.specs.declared.reply.Reply.{Reply}
use Rattle.droid_remote.specs.Answering.{IsAnswered, IsTaken}
use Rattle.droid_remote.specs.Events.{Event, Came, Fact, Written, facts_after, facts_behind}
use Rattle.droid_remote.specs.Moves.{Goes, Moves, Stops}
use Rattle.droid_remote.specs.Stages.{AreIn, HasFirst, Stands, StandsOn, counted}
use Rattle.droid_remote.specs.Vouching.{IsVouched, remember}
use Rattle.droid_remote.specs.declared.transfer.connection_steps.Stage.{Stage}
use Rattle.droid_remote.specs.declared.transfer.in_flight.InFlight.{InFlight}
use Rattle.droid_remote.specs.declared.transfer.known_requests.Known.{Known}
use Rattle.droid_remote.specs.declared.transfer.known_requests.KnownRequests.{KnownRequests}
use Rattle.droid_remote.specs.declared.transfer.transfer_fault.TransferFault.{TransferFault}

-- whatever is known and stands before a call
abbrev pub Wherever : {C : Type 0} → InFlight C → (KnownRequests → List Fact → Type 0) → Type 0
Wherever old Is = (known : KnownRequests) (facts : List Fact) → StandsOn known facts old → Is known facts

-- the frame was in flight, or is the one that is sent
abbrev pub IsAmong : List Frame → Frame → Frame → Type 0
IsAmong waiting sent frame = Contains waiting frame ⊎ (frame ≡ sent)

-- ---- of the public calls

-- a frame was sent, and the replies to the first frames in flight came, each of them Taken; at most sixteen are in
-- flight
pub record Sends {C : Type 0} (does : C → Event → C → Type 0) (known : KnownRequests) (frame : Frame)
    (facts : List Fact) (old new : InFlight C) : Type 0 where
  pub settled : List Frame
  pub others : List Frame
  pub cut : old.waiting.items ≡ settled ++ others
  pub behind : new.waiting.items ≡ others ++ frame ∷ []
  pub few : length new.waiting.items ≤ 16
  pub goes : Goes does known (IsAmong old.waiting.items frame) facts old.connection new.connection
  pub taken : AllByRecursion (IsTaken known facts goes.events) settled
  pub stands_on : StandsOn known (facts_after facts goes.events) new

-- a frame was sent, and its reply came after the replies to all that were in flight, each of them Taken; if the reply
-- makes a profile or a node, the request is known from now on
pub record Waits {C : Type 0} (does : C → Event → C → Type 0) (known : KnownRequests) (frame : Frame) (reply : Reply)
    (facts : List Fact) (old new : InFlight C) : Type 0 where
  pub none : new.waiting.items ≡ []
  pub goes : Goes does known (IsAmong old.waiting.items frame) facts old.connection new.connection
  pub taken : AllByRecursion (IsTaken known facts goes.events) old.waiting.items
  pub answered : IsAnswered known facts goes.events frame reply
  pub stands_on : StandsOn (remember known frame reply) (facts_after facts goes.events) new

-- the replies to all frames in flight came, each of them Taken
pub record EndsAll {C : Type 0} (does : C → Event → C → Type 0) (known : KnownRequests) (facts : List Fact)
    (old new : InFlight C) : Type 0 where
  pub none : new.waiting.items ≡ []
  pub goes : Goes does known (Contains old.waiting.items) facts old.connection new.connection
  pub taken : AllByRecursion (IsTaken known facts goes.events) old.waiting.items
  pub stands_on : StandsOn known (facts_after facts goes.events) new

-- A call ended with a fault, for a reason that the events show. Nothing is in flight any more, and the same requests
-- are known. `pieces` are the frames of which one may have been refused.
pub record Fails {C : Type 0} (does : C → Event → C → Type 0) (known : KnownRequests) (Is : Frame → Type 0)
    (pieces : List Frame) (fault : TransferFault) (facts : List Fact) (old new : InFlight C) : Type 0 where
  pub none : new.waiting.items ≡ []
  pub stops : Stops does known Is pieces fault facts old.connection new.connection
  pub stands_on : StandsOn known (facts_after facts stops.goes.events) new

-- an event happened to the connection that is not of frames; the same requests are in flight and known
pub record Waited {C : Type 0} (does : C → Event → C → Type 0) (event : Event) (old new : InFlight C) : Type 0 where
  pub happened : does old.connection event new.connection
  pub same_waiting : new.waiting.items ≡ old.waiting.items
  pub same_known : new.known ≡ old.known
  pub stands_on : (known : KnownRequests) (facts : List Fact) → StandsOn known facts old
      → StandsOn known (facts_behind facts event) new

-- ---- of the steps between them

-- the next frame came: `ahead` is what happened before
pub record Hears {C : Type 0} (does : C → Event → C → Type 0) (known : KnownRequests) (came : Frame) (facts : List Fact)
    (old new : InFlight C) : Type 0 where
  pub stage : Stage
  pub middle : C
  pub ahead : Moves does known (Contains old.waiting.items) facts stage old.waiting.items old.connection middle
  pub stands : Stands stage
  pub first : HasFirst stage old.waiting.items
  pub last : does middle (Came came) new.connection
  pub same_known : new.known ≡ known
  pub behind : (rest : List Frame) → AreIn rest old.waiting.items
      → AreIn (counted new.stage rest) (counted stage old.waiting.items)

-- some tries brought no frame
pub record Tries {C : Type 0} (does : C → Event → C → Type 0) (known : KnownRequests) (facts : List Fact)
    (old new : InFlight C) : Type 0 where
  pub goes : Goes does known (Contains old.waiting.items) facts old.connection new.connection
  pub stands_on : StandsOn known (facts_after facts goes.events) new

-- the reply to the first frame in flight came
pub record Takes {C : Type 0} (does : C → Event → C → Type 0) (known : KnownRequests) (answer : Known)
    (facts : List Fact) (old new : InFlight C) : Type 0 where
  pub goes : Goes does known (Contains old.waiting.items) facts old.connection new.connection
  pub before : List Event
  pub cut : goes.events ≡ before ++ Came answer.reply ∷ []
  pub was_written : Contains (facts_after facts before) (Written answer.request)
  pub vouched : IsVouched known (facts_after facts before)
  pub stands_on : StandsOn known (facts_after facts goes.events) new

-- the replies to these first frames in flight came, and each was Taken
pub record Settles {C : Type 0} (does : C → Event → C → Type 0) (known : KnownRequests) (settled : List Frame)
    (facts : List Fact) (old new : InFlight C) : Type 0 where
  pub goes : Goes does known (Contains old.waiting.items) facts old.connection new.connection
  pub taken : AllByRecursion (IsTaken known facts goes.events) settled
  pub stands_on : StandsOn known (facts_after facts goes.events) new

-- a frame was appended to those in flight
pub record Puts {C : Type 0} (does : C → Event → C → Type 0) (known : KnownRequests) (frame : Frame) (facts : List Fact)
    (old new : InFlight C) : Type 0 where
  pub goes : Goes does known (λ other. other ≡ frame) facts old.connection new.connection
  pub stands_on : StandsOn known (facts_after facts goes.events) new
