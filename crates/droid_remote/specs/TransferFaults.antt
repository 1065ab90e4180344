-- What each fault says of what happened (this project's own).
use Rattle.std.specs.Prelude.{◌≡◌, ◌≢◌, ◌⊎◌, ◌≤◌, ◌-◌, ◌^◌, Bool, true, false, List, [], ◌∷◌, Contains, length}
use Rattle.droid_frame.specs.declared.frame.Frame.{Frame}
use Rattle.droid_frame.specs.declared.refusal.Refusal.{Refusal}
use Rattle.droid_frame.specs.declared.refusal.Refusal.TheVariants as refusals
use Rattle.droid_frame.specs.declared.reply.Reply.{Reply}
use Rattle.droid_frame.specs.declared.reply.Reply.TheVariants as replies
use Rattle.droid_frame.specs.Replies.{SpellsReply}
use Rattle.droid_remote.specs.Answering.{IsAnswered, IsReplyTo}
use Rattle.droid_remote.specs.Events.{Event, Came, EndsIn, Expired, Fact, Sent}
use Rattle.droid_remote.specs.Vouching.{IsKnown}
use Rattle.droid_remote.specs.declared.transfer.known_requests.Known.{Known}
use Rattle.droid_remote.specs.declared.transfer.known_requests.KnownRequests.{KnownRequests}
use Rattle.droid_remote.specs.declared.transfer.transfer_fault.TransferFault.{TransferFault}
use Rattle.droid_remote.specs.declared.transfer.transfer_fault.TransferFault.TheVariants.{Memory, Broken, Stranger}
use Rattle.droid_remote.specs.declared.transfer.transfer_fault.TransferFault.TheVariants.{Restarted, Refused, Busy}

-- the reply is neither Taken nor a refusal
abbrev pub IsOther : Reply → Type 0
IsOther (replies.Taken held) = ⊥
IsOther (replies.Refused refusal) = ⊥
IsOther _ = Unit {0}

-- the time that may be waited is over; or there were as many events as the largest number counts
abbrev pub GivesUp : List Event → Type 0
GivesUp events = EndsIn events (Expired ∷ []) ⊎ (2 ^ 64 - 1 ≤ length events)

-- the last event was a frame that is no reply to this request, or none that a piece can get
pub record IsStranger (Is : Frame → Type 0) (events : List Event) : Type 0 where
  pub frame : Frame
  pub came : Frame
  pub is : Is frame
  pub last : EndsIn events (Came came ∷ [])
  pub no_reply : (reply : Reply) → IsReplyTo frame came reply → IsOther reply

-- the last events were that a known request was written and another reply than the known one came
pub record IsRestarted (all : KnownRequests) (events : List Event) : Type 0 where
  pub known : Known
  pub came : Frame
  pub is : IsKnown all known
  pub last : EndsIn events (Sent known.request ∷ Came came ∷ [])
  pub other : came ≢ known.reply

-- a piece among these was refused, for another reason than memory
pub record IsRefused (known : KnownRequests) (pieces : List Frame) (facts : List Fact) (events : List Event)
    (refusal : Refusal) : Type 0 where
  pub frame : Frame
  pub is : Contains pieces frame
  pub answered : IsAnswered known facts events frame (replies.Refused refusal)
  pub reason : refusal ≢ refusals.Memory

-- why a call ended with this fault, given the facts before its events
abbrev pub Explains : TransferFault → KnownRequests → (Frame → Type 0) → List Frame → List Fact → List Event → Type 0
Explains Memory known Is pieces facts events = Unit {0}
Explains Broken known Is pieces facts events = GivesUp events
Explains Stranger known Is pieces facts events = IsStranger Is events
Explains Restarted known Is pieces facts events = IsRestarted known events
Explains (Refused refusal) known Is pieces facts events = IsRefused known pieces facts events refusal
Explains Busy known Is pieces facts events = ⊥

-- a piece was refused
abbrev pub is_refusal : TransferFault → Bool
is_refusal (Refused refusal) = true
is_refusal _ = false

-- ---- of single frames

-- a service that does not repeat its reply is out of memory, or was restarted
abbrev pub IsLost : TransferFault → Type 0
IsLost Memory = Unit {0}
IsLost Restarted = Unit {0}
IsLost _ = ⊥

-- why no reply could be read from a frame
abbrev pub ExplainsBody : TransferFault → Frame → Type 0
ExplainsBody Memory came = Unit {0}
ExplainsBody Stranger came = (reply : Reply) → SpellsReply came.version came.kind came.body reply → ⊥
ExplainsBody _ came = ⊥

-- why the reply to a piece is not Taken
abbrev pub ExplainsTaken : TransferFault → Reply → Type 0
ExplainsTaken Memory reply = Unit {0}
ExplainsTaken Stranger reply = IsOther reply
ExplainsTaken (Refused refusal) reply = (reply ≡ replies.Refused refusal) × (refusal ≢ refusals.Memory)
ExplainsTaken _ reply = ⊥

-- why the frame of the reply to a piece spells no Taken
abbrev pub ExplainsPiece : TransferFault → Frame → Type 0
ExplainsPiece Memory came = Unit {0}
ExplainsPiece Stranger came = (reply : Reply) → SpellsReply came.version came.kind came.body reply → IsOther reply
ExplainsPiece (Refused refusal) came =
    SpellsReply came.version came.kind came.body (replies.Refused refusal) × (refusal ≢ refusals.Memory)
ExplainsPiece _ came = ⊥
