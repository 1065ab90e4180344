-- What a machine answers, and what a journal keeps of it (this project's own).
use Rattle.std.specs.Prelude.{◌≡◌, if◌then◌else◌, Bool, false, List, [], ◌∷◌, ◌++◌, ◌⊎◌}
use Rattle.droid_frame.specs.Frames.{frame_bytes}
use Rattle.droid_frame.specs.ReplyFrames.{reply_frame}
use Rattle.droid_frame.specs.declared.frame.Frame.{Frame}
use Rattle.droid_frame.specs.Streams.{IsReadable}
use Rattle.droid_frame.specs.declared.refusal.Refusal.TheVariants.{Malformed, Memory}
use Rattle.droid_frame.specs.declared.reply.Reply.{Reply}
use Rattle.droid_frame.specs.declared.reply.Reply.TheVariants.{Refused}
use Rattle.droid_journal.specs.Records.{Record, made}

-- the record of a request that was accepted with this reply
abbrev pub record_of : Bool → Frame → Reply → Record
record_of first frame reply = made first (frame_bytes frame) (reply_frame frame.version frame.client frame.number reply)

-- the records after a request: one more, if it was accepted
abbrev pub extended : List Record → Bool → Frame → Reply → Bool → List Record
extended records first frame reply accepted = if accepted then records ++ record_of first frame reply ∷ [] else records

-- the machine gave this reply; or there was no memory to spell the request, or no stream can carry it, and the machine
-- was not asked
abbrev pub Answers : (List Record → Frame → Reply → Bool → Type 0) → List Record → Frame → Reply → Bool → Type 0
Answers gives records frame reply accepted =
    gives records frame reply accepted
    ⊎ ((accepted ≡ false) × ((reply ≡ Refused Memory) ⊎ ((IsReadable frame → ⊥) × (reply ≡ Refused Malformed))))
