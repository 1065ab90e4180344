-- What happens on a sender's connection for the deeds of an upload (this project's own).
use Rattle.std.specs.Prelude.{◌≡◌, ℕ, Bool, IsTrue, List, [], ◌∷◌, Contains}
use Rattle.std.specs.List.{AllByRecursion}
use Rattle.droid_frame.specs.declared.frame.Frame.{Frame}
use Rattle.droid_remote.specs.Answering.{IsAnswered, IsTaken}
use Rattle.droid_remote.specs.Chains.{GoesOver}
use Rattle.droid_remote.specs.Events as connections
use Rattle.droid_remote.specs.Events.{Event, Fact, facts_after}
use Rattle.droid_remote.specs.Stages.{StandsOn}
use Rattle.droid_remote.specs.Vouching.{nothing_known, remember}
use Rattle.droid_remote.specs.declared.transfer.in_flight.InFlight.{InFlight}
use Rattle.droid_remote.specs.declared.transfer.known_requests.KnownRequests.{KnownRequests}
use Rattle.droid_upload.specs.Calls.{Call, Answered, Sent, Failed, attempt_of, request_of}
use Rattle.droid_upload.specs.Deeds.{Deed, Called}
use Rattle.droid_remote.specs.Numbered.{frame_of}

-- if a frame was written, whole or in part, it is one of these
abbrev pub WritesOnly : (Frame → Type 0) → Event → Type 0
WritesOnly Is (connections.Sent frame) = Is frame
WritesOnly Is (connections.Cut frame) = Is frame
WritesOnly Is _ = Unit {0}

-- The pieces in flight before these deeds had to be taken: the next request that is no piece was answered. Where there
-- is no such request, they had to be if their replies were awaited at the end; where it failed, they need not have
-- been.
abbrev pub AreAwaited : (at_end : Bool) → List Deed → Type 0
AreAwaited at_end [] = IsTrue at_end
AreAwaited at_end (Called (Answered attempt request reply) ∷ deeds) = Unit {0}
AreAwaited at_end (Called (Failed attempt request why) ∷ deeds) = ⊥
AreAwaited at_end (deed ∷ deeds) = AreAwaited at_end deeds

module _ (client : ℕ) (name : List ℕ) where
  -- the frame of a call's request, under its number
  abbrev pub frame_of_call : Call → Frame
  frame_of_call call = frame_of client name (attempt_of call) (request_of call)

  -- the frame is that of a call among these deeds
  abbrev pub IsOfDeeds : List Deed → Frame → Type 0
  IsOfDeeds deeds frame = (call : Call) × Contains deeds (Called call) × (frame ≡ frame_of_call call)

  -- what is known of the service after a deed
  abbrev pub known_behind : KnownRequests → Deed → KnownRequests
  known_behind known (Called (Answered attempt request reply)) =
      remember known (frame_of client name attempt request) reply
  known_behind known _ = known

  -- what is known of it after these deeds
  abbrev pub known_after : KnownRequests → List Deed → KnownRequests
  known_after known [] = known
  known_after known (deed ∷ deeds) = known_after (known_behind known deed) deeds

  -- The reply of an answered call came, on a connection on which the service was vouched for by what was known then. A
  -- piece that was sent before the other deeds was taken, if it had to be.
  abbrev pub IsDone : (at_end : Bool) → KnownRequests → List Fact → List Event → Deed → List Deed → Type 0
  IsDone at_end known facts events (Called (Answered attempt request reply)) deeds =
      IsAnswered known facts events (frame_of client name attempt request) reply
  IsDone at_end known facts events (Called (Sent request)) deeds =
      AreAwaited at_end deeds → IsTaken known facts events (frame_of client name 0 request)
  IsDone at_end known facts events _ deeds = Unit {0}

  -- each of these deeds is done, given what is known after those before it
  abbrev pub AreDone : (at_end : Bool) → KnownRequests → List Fact → List Event → List Deed → Type 0
  AreDone at_end known facts events [] = Unit {0}
  AreDone at_end known facts events (deed ∷ deeds) =
      IsDone at_end known facts events deed deeds × AreDone at_end (known_behind known deed) facts events deeds

  -- For these deeds, events happened on the connection. Each frame that was written, whole or in part, is that of a
  -- call among the deeds, and each call is done.
  pub record Converses {C : Type 0} (does : C → Event → C → Type 0) (at_end : Bool) (deeds : List Deed)
      (old new : InFlight C) : Type 0 where
    pub events : List Event
    pub happened : GoesOver does old.connection events new.connection
    pub only : AllByRecursion (WritesOnly (IsOfDeeds deeds)) events
    pub done : AreDone at_end nothing_known [] events deeds
    pub stands_on : StandsOn (known_after nothing_known deeds) (facts_after [] events) new
