-- When a request counts as answered (this project's own).
use Rattle.std.specs.Prelude.{◌≡◌, ℕ, List, ◌∷◌, ◌++◌, Contains}
use Rattle.droid_frame.specs.declared.frame.Frame.{Frame}
use Rattle.droid_frame.specs.declared.reply.Reply.{Reply}
use Rattle.droid_frame.specs.declared.reply.Reply.TheVariants as replies
use Rattle.droid_frame.specs.Replies.{SpellsReply}
use Rattle.droid_remote.specs.Events.{Event, Came, Fact, Written, facts_after}
use Rattle.droid_remote.specs.Vouching.{IsVouched}
use Rattle.droid_remote.specs.declared.transfer.known_requests.KnownRequests.{KnownRequests}

-- the frame has the version, client and number of this request
pub record IsTo (frame came : Frame) : Type 0 where
  pub version : came.version ≡ frame.version
  pub client : came.client ≡ frame.client
  pub number : came.number ≡ frame.number

-- the frame is a reply to this request, and spells this reply
pub record IsReplyTo (frame came : Frame) (reply : Reply) : Type 0 where
  pub to : IsTo frame came
  pub spelled : SpellsReply came.version came.kind came.body reply

-- This reply to this request came, given the facts before the events. It came on the connection on which the request
-- had been written, and on which the service had been vouched for.
pub record IsAnswered (known : KnownRequests) (facts : List Fact) (events : List Event) (frame : Frame) (reply : Reply)
    : Type 0 where
  pub came : Frame
  pub before : List Event
  pub later : List Event
  pub cut : events ≡ before ++ Came came ∷ later
  pub was_written : Contains (facts_after facts before) (Written frame)
  pub vouched : IsVouched known (facts_after facts before)
  pub is_reply : IsReplyTo frame came reply

-- the reply Taken to this piece came
abbrev pub IsTaken : KnownRequests → List Fact → List Event → Frame → Type 0
IsTaken known facts events frame = (held : ℕ) × IsAnswered known facts events frame (replies.Taken held)
