-- One turn of serving a stream.
use Rattle.std.proofs.Common.{◌≡◌, ℕ, ◌+◌, ◌-◌, List, length, take, [], Option, Some, None, Ok, Err, IfSome, refl, subst, arith, inl, inr}
use Rattle.std.specs.Prelude.{◌⊎◌}
use Rattle.std.specs.Io.KnownBytes.{Appends, Consumes}
use Rattle.droid_frame.specs.Frames.{frame_bytes}
use Rattle.droid_frame.specs.Replies.{HasReplySpelling, reply_bytes}
use Rattle.droid_frame.specs.ReplyFrames.{reply_frame}
use Rattle.droid_frame.specs.Seen.{GivesUp, Lasts, ReportsFault}
use Rattle.droid_frame.specs.StreamReads.{ReadsNoFrame}
use Rattle.droid_frame.specs.StreamWrites.{Stops}
use Rattle.droid_frame.specs.Streams.{IsReadable}
use Rattle.droid_frame.specs.declared.frame.Frame.{Frame}
use Rattle.droid_frame.specs.declared.reply.Reply.{Reply}
use Rattle.droid_frame.specs.Writes.{LacksRoom, ReportsWrite}
use Rattle.droid_frame.specs.declared.io.stream_record.Seen.{Seen}
use Rattle.droid_frame.proofs.StreamFrames.{no_frame_in_short}
use Rattle.droid_core.specs.Standing.{StandsFor}
use Rattle.droid_core.specs.declared.service.Service.{Service}
use Rattle.droid_core_spec.specs.Histories.{History, Handles}
use Rattle.droid_core_spec.specs.Setting.{Setting}
use Rattle.droid_wire.specs.declared.serve_fault.ServeFault.TheVariants as faults
use Rattle.droid_wire.specs.Steps.{Turn, TurnGives}

turn_is : (setting : Setting) (history : History) (input : List ℕ) (left : Option (List ℕ)) (after : Service) (frame : Frame) (reply : Reply)
    → IsReadable frame → Consumes (Some input) left (frame_bytes frame) → Handles setting history frame reply (StandsFor setting after) → HasReplySpelling frame.version reply
    → Turn setting history input left after frame reply
turn_is setting history input None after frame reply readable consumed handles spelled = absurd consumed
turn_is setting history input (Some rest) after frame reply readable consumed handles spelled =
    record { rest = rest; readable = readable; joined = consumed; is_left = refl; handles = handles; spelled = spelled }

pub frame_size : (version client number : ℕ) (reply : Reply) → length (reply_frame version client number reply) ≡ 18 + length (reply_bytes version reply)
frame_size version client number reply = omega arith

-- the reply was written
pub gives_answered : (setting : Setting) (history : History) (known left old new : Option (List ℕ)) (before after : Service) (count size body : ℕ) (frame : Frame) (reply : Reply)
    → IsReadable frame × Consumes known left (frame_bytes frame) → Handles setting history frame reply (StandsFor setting after) → HasReplySpelling frame.version reply
    → Appends old new (reply_frame frame.version frame.client frame.number reply) → size ≡ 18 + body → body ≡ length (reply_bytes frame.version reply)
    → IfSome known (λ input. TurnGives setting history input left old new before after count (Ok (Some size)))
gives_answered setting history None left old new before after count size body frame reply came handles spelled written is body_is = tt
gives_answered setting history (Some input) left old new before after count size body frame reply came handles spelled written is body_is = record {
  frame = frame;
  reply = reply;
  turn = turn_is setting history input left after frame reply came.0 came.1 handles spelled;
  written = written;
  size_is = omega (arith, is, body_is, frame_size frame.version frame.client frame.number reply);
}

-- only a front of it was
pub gives_cut : (setting : Setting) (history : History) (known left old new : Option (List ℕ)) (before after : Service) (count size : ℕ) (frame : Frame) (reply : Reply)
    → IsReadable frame × Consumes known left (frame_bytes frame) → Handles setting history frame reply (StandsFor setting after) → HasReplySpelling frame.version reply
    → Stops old new (reply_frame frame.version frame.client frame.number reply) size
    → IfSome known (λ input. TurnGives setting history input left old new before after count (Err (faults.Write (count + size))))
gives_cut setting history None left old new before after count size frame reply came handles spelled stops = tt
gives_cut setting history (Some input) left old new before after count size frame reply came handles spelled stops =
    let here : size ≡ (count + size) - count = omega arith in (
      omega arith,
      record {
        frame = frame;
        reply = reply;
        turn = turn_is setting history input left after frame reply came.0 came.1 handles spelled;
        short = omega (arith, stops.some_left);
        written = subst (λ (n : ℕ). Appends old new (take n (reply_frame frame.version frame.client frame.number reply))) here stops.front;
      },
    )

-- where the input ended, nothing was read
pub reads_nothing : (old new : Option (List ℕ)) → Consumes old new [] → ReadsNoFrame old new
reads_nothing old new consumed = record { bytes = []; consumed = consumed; no_frame = no_frame_in_short [] (omega arith); within = inl (omega arith) }

-- ---- a writer with no end of room

no_room_lacks : (start : ℕ) (seen : Seen) (size : ℕ) → GivesUp start seen ⊎ (Lasts start seen × LacksRoom None size) → GivesUp start seen
no_room_lacks start seen size (inl up) = up
no_room_lacks start seen size (inr full) = absurd full.1

-- its fault is that it is given up
pub endless_write : (start : ℕ) (seen : Seen) (room : Option ℕ) (size : ℕ) (P Q : Type 0) → room ≡ None → ReportsWrite start seen room size P → P → Q → ReportsFault start seen Q
endless_write start seen None size P Q endless reported p q = record { fault = λ _. no_room_lacks start seen size (reported.fault p); otherwise = λ not. absurd (not q) }
endless_write start seen (Some room) size P Q endless reported p q = absurd cc
