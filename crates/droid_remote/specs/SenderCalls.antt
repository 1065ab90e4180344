-- What each call of a sender does (this project's own).
use Rattle.std.specs.Prelude.{◌≡◌, ℕ, Bool, true, false, List, [], ◌∷◌, ◌++◌, Contains, IsSome, Option, Some, None}
use Rattle.droid_frame.specs.declared.frame.Frame.{Frame}
use Rattle.droid_frame.specs.declared.refusal.Limit.TheVariants as limits
use Rattle.droid_frame.specs.declared.refusal.Refusal.{Refusal}
use Rattle.droid_frame.specs.declared.refusal.Refusal.TheVariants as refusals
use Rattle.droid_frame.specs.declared.reply.Reply.{Reply}
use Rattle.droid_frame.specs.declared.reply.Reply.TheVariants as replies
use Rattle.droid_frame.specs.declared.request.Request.{Request}
use Rattle.droid_remote.specs.Answering.{IsAnswered}
use Rattle.droid_remote.specs.Calls.{Fails, IsAmong, Sends, Waits, Wherever}
use Rattle.droid_remote.specs.Events.{Event, Fact, Started, facts_after}
use Rattle.droid_remote.specs.Moves.{Goes}
use Rattle.droid_remote.specs.Stages.{StandsOn}
use Rattle.droid_remote.specs.TransferFaults.{Explains, GivesUp}
use Rattle.droid_remote.specs.Vouching.{nothing_known}
use Rattle.droid_remote.specs.declared.transfer.in_flight.InFlight.{InFlight}
use Rattle.droid_remote.specs.declared.transfer.known_requests.KnownRequests.{KnownRequests}
use Rattle.droid_remote.specs.declared.transfer.transfer_fault.TransferFault.{TransferFault}
use Rattle.droid_remote.specs.declared.transfer.transfer_fault.TransferFault.TheVariants as transfers
use Rattle.droid_remote.specs.Sharing.{IsAsked}
use Rattle.droid_remote.specs.Submitted.{IsSubmitted}
use Rattle.droid_upload.specs.Calls.{Call, Answered, Sent, Failed}
use Rattle.droid_upload.specs.declared.client_fault.ClientFault.{ClientFault}
use Rattle.droid_upload.specs.declared.client_fault.ClientFault.TheVariants.{Piece, Ended}
use Rattle.droid_remote.specs.Numbered.{frame_of}
use Rattle.droid_remote.specs.declared.sender.Sender.{Sender}

-- nothing is in flight, and nothing is known of the service
pub record IsFresh {C : Type 0} (sender : Sender C) : Type 0 where
  pub none : sender.in_flight.waiting.items ≡ []
  pub stands_on : StandsOn nothing_known [] sender.in_flight

-- the service has no place for another unfinished file
abbrev pub is_busy : Reply → Bool
is_busy (replies.Refused (refusals.LimitReached limits.Unfinished)) = true
is_busy _ = false

-- what the walk learns: a refused piece, or that nothing more is sent
abbrev pub client_fault_of : TransferFault → ClientFault
client_fault_of (transfers.Refused refusal) = Piece refusal
client_fault_of _ = Ended

-- why nothing more is sent: any fault but a refused piece
abbrev pub stop_of : TransferFault → Option TransferFault
stop_of (transfers.Refused refusal) = None
stop_of fault = Some fault

-- the sender sends for the same submission, and was not and is not stopped
pub record GoesOn {C : Type 0} (old new : Sender C) : Type 0 where
  pub same_client : new.client ≡ old.client
  pub same_name : new.name ≡ old.name
  pub was_going : old.stopped ≡ None
  pub is_going : new.stopped ≡ None

-- The service said that it has no place for another unfinished file. Then the time that may be waited was started, and
-- at the end it was over.
pub record IsBusy (known : KnownRequests) (frame : Frame) (facts : List Fact) (events : List Event) : Type 0 where
  pub before : List Event
  pub later : List Event
  pub cut : events ≡ before ++ Started ∷ later
  pub reply : Reply
  pub busy : is_busy reply ≡ true
  pub answered : IsAnswered known facts before frame reply
  pub over : GivesUp later

-- why no reply to this frame came
abbrev pub ExplainsMiss : TransferFault → KnownRequests → (Frame → Type 0) → List Frame → Frame → List Fact → List Event
    → Type 0
ExplainsMiss transfers.Busy known Is pieces frame facts events = IsBusy known frame facts events
ExplainsMiss fault known Is pieces frame facts events = Explains fault known Is pieces facts events

-- no reply to this frame came; only it, requests that were in flight and known requests were written
pub record Misses {C : Type 0} (does : C → Event → C → Type 0) (known : KnownRequests) (frame : Frame)
    (fault : TransferFault) (facts : List Fact) (old new : InFlight C) : Type 0 where
  pub goes : Goes does known (IsAmong old.waiting.items frame) facts old.connection new.connection
  pub explained : ExplainsMiss fault known (IsAmong old.waiting.items frame) old.waiting.items frame facts goes.events
  pub kept : (other : Frame) → Contains new.waiting.items other → Contains old.waiting.items other
  -- after a refused piece nothing is in flight
  pub none : (refusal : Refusal) → fault ≡ transfers.Refused refusal → new.waiting.items ≡ []
  pub stands_on : StandsOn known (facts_after facts goes.events) new

-- ---- of the calls

-- this reply to the request came, which was sent under its number
pub record Answers {C : Type 0} (does : C → Event → C → Type 0) (attempt : ℕ) (request : Request) (reply : Reply)
    (old new : Sender C) : Type 0 where
  pub asked : IsAsked attempt request
  pub goes_on : GoesOn old new
  pub waits : Wherever old.in_flight (λ known facts.
      Waits does known (frame_of old.client old.name attempt request) reply facts old.in_flight new.in_flight)
  pub free : is_busy reply ≡ false

-- the piece was sent under its number
pub record SendsPiece {C : Type 0} (does : C → Event → C → Type 0) (request : Request) (old new : Sender C)
    : Type 0 where
  pub asked : IsAsked 0 request
  pub goes_on : GoesOn old new
  pub sends : Wherever old.in_flight (λ known facts.
      Sends does known (frame_of old.client old.name 0 request) facts old.in_flight new.in_flight)

-- no reply to the request came, for this reason
pub record MissesReply {C : Type 0} (does : C → Event → C → Type 0) (attempt : ℕ) (request : Request)
    (fault : TransferFault) (old new : Sender C) : Type 0 where
  pub asked : IsAsked attempt request
  pub same_client : new.client ≡ old.client
  pub same_name : new.name ≡ old.name
  pub was_going : old.stopped ≡ None
  pub stopped : new.stopped ≡ stop_of fault
  pub misses : Wherever old.in_flight (λ known facts.
      Misses does known (frame_of old.client old.name attempt request) fault facts old.in_flight new.in_flight)

-- how a call fails
pub data FailsCall {C : Type 0} (does : C → Event → C → Type 0) (attempt : ℕ) (request : Request) (why : ClientFault)
    (old new : Sender C) : Type 0 where
  -- the sender was stopped before: nothing more is written
  HadStopped : IsSome old.stopped → why ≡ Ended → new ≡ old → FailsCall does attempt request why old new
  -- the request is none of a submission, and is not sent
  WasForeign : ¬ (IsSubmitted request) → why ≡ Ended → new ≡ old → FailsCall does attempt request why old new
  -- no reply came
  HasMissed : (fault : TransferFault) → MissesReply does attempt request fault old new → why ≡ client_fault_of fault
      → FailsCall does attempt request why old new

-- a sender was called
abbrev pub CallsSender : {C : Type 0} → (C → Event → C → Type 0) → Sender C → Call → Sender C → Type 0
CallsSender does old (Answered attempt request reply) new = Answers does attempt request reply old new
CallsSender does old (Sent request) new = SendsPiece does request old new
CallsSender does old (Failed attempt request why) new = FailsCall does attempt request why old new

-- ---- of the end

-- The replies to the pieces in flight did not all come, or one was not Taken; or the sender had stopped before. Now it
-- is stopped.
pub data FailsToSettle {C : Type 0} (does : C → Event → C → Type 0) (fault : TransferFault) (old new : Sender C)
    : Type 0 where
  HadStoppedBefore : old.stopped ≡ Some fault → new ≡ old → FailsToSettle does fault old new
  NotAllCame : old.stopped ≡ None → new ≡ record old { in_flight = new.in_flight; stopped = Some fault }
      → Wherever old.in_flight
      (λ known facts.
      Fails does known (Contains old.in_flight.waiting.items) old.in_flight.waiting.items fault facts old.in_flight
      new.in_flight)
      → FailsToSettle does fault old new
