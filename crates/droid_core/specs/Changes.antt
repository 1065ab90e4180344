-- What one request changes inside the service.
use Rattle.std.specs.Prelude.{◌≡◌, ◌∷◌, [], ◌++◌, if◌then◌else◌, Bool, MatchBool, Result, Ok, Err}
use Rattle.droid_frame.specs.Replies.{reply_kind, reply_bytes}
use Rattle.droid_frame.specs.declared.frame.Frame.{Frame}
use Rattle.droid_frame.specs.declared.refusal.Refusal.{Refusal}
use Rattle.droid_frame.specs.declared.refusal.Refusal.TheVariants.{NumberReused}
use Rattle.droid_frame.specs.declared.reply.Reply.{Reply}
use Rattle.droid_frame.specs.declared.reply.Reply.TheVariants.{Refused}
use Rattle.droid_core_spec.specs.Histories.{frame_mark, is_same_request, verdict_reply}
use Rattle.droid_core_spec.specs.Judging.{Verdict, Accepted, Answered, Refuses}
use Rattle.droid_core_spec.specs.Setting.{Setting}
use Rattle.droid_core_spec.specs.MemoryFaults.{is_out_of_memory}
use Rattle.droid_core_spec.specs.World.{World}
use Rattle.droid_store.specs.declared.rows.Entry as rows
use Rattle.droid_core.specs.declared.holdings.Holdings.{Holdings}
use Rattle.droid_core.specs.declared.stamps.Stamp.{Stamp}
use Rattle.droid_core.specs.HoldingsStanding.{IsIn}

-- the reply to a request from the result of its call
abbrev pub answered : Result Reply Refusal → Reply
answered (Ok reply) = reply
answered (Err refusal) = Refused refusal

-- the row of a reply to the request with this stamp, in the request's version
abbrev pub stamped : Stamp → Reply → rows.Entry
stamped stamp reply = record {
  client = stamp.client;
  number = stamp.number;
  version = stamp.version;
  mark = stamp.mark;
  kind = reply_kind reply;
  body = reply_bytes stamp.version reply;
}

-- the stamp of a frame: its client and number, its version and its mark
abbrev pub stamp_of : Frame → Stamp
stamp_of frame =
    record { client = frame.client; number = frame.number; version = frame.version; mark = frame_mark frame }

-- the row is that of the reply to the request with this stamp, under one client and number
abbrev pub is_row_of : rows.Entry → Stamp → Bool
is_row_of entry stamp = is_same_request entry.version entry.mark stamp.version stamp.mark

-- the answer to the request with this stamp if the row is kept under its number and spells this reply
abbrev pub again : rows.Entry → Stamp → Reply → Reply
again entry stamp kept = if is_row_of entry stamp then kept else Refused NumberReused

-- the service is in the same world, with the same replies kept
pub record Stays (setting : Setting) (world : World) (old new : Holdings) : Type 0 where
  pub world_is : IsIn setting world new
  pub replies : new.store.replies ≡ old.store.replies

-- the service is in this world, and one reply more is kept
pub record TakesOne (setting : Setting) (after : World) (old new : Holdings) (stamp : Stamp) (reply : Reply)
    : Type 0 where
  pub world_is : IsIn setting after new
  pub replies : new.store.replies ≡ old.store.replies ++ stamped stamp reply ∷ []

-- what the service keeps after a verdict: a command that was accepted is kept, with its reply; after any other request
-- nothing has changed
abbrev pub Leaves : Setting → World → Holdings → Holdings → Stamp → Verdict → Type 0
Leaves setting world old new stamp (Accepted reply after) = TakesOne setting after old new stamp reply
Leaves setting world old new stamp (Answered reply) = Stays setting world old new
Leaves setting world old new stamp (Refuses refusal) = Stays setting world old new

-- after a request under a new number: what its verdict says, or memory ran out and nothing changed
abbrev pub Comes : Setting → World → Holdings → Holdings → Stamp → Verdict → Reply → Type 0
Comes setting world old new stamp verdict reply =
    MatchBool (is_out_of_memory reply) (Stays setting world old new)
    ((reply ≡ verdict_reply verdict) × Leaves setting world old new stamp verdict)
