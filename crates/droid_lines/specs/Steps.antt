-- For inner clauses and proofs: the outcomes of the parts of sending one line.
use Rattle.std.specs.Prelude.{◌≡◌, ◌≢◌, ℕ, ◌^◌, ◌⊎◌, List, [], Option, Some, IfSome, Result, Ok, Err, Bool}
use Rattle.std.specs.Io.KnownBytes.{Appends, Consumes, IsAtEnd, Keeps}
use Rattle.droid_frame.specs.Frames.{frame_bytes}
use Rattle.droid_frame.specs.Replies.{SpellsReply}
use Rattle.droid_frame.specs.StreamReads.{ReadsNoFrame, ImpliedBy}
use Rattle.droid_frame.specs.declared.frame.Frame.{Frame}
use Rattle.droid_frame.specs.declared.reply.Reply.{Reply}
use Rattle.droid_lines.specs.declared.parser.VersionedRequest.{VersionedRequest}
use Rattle.droid_client.specs.Cores.{Core, core_submitting, next_frame, next_number}
use Rattle.droid_client.specs.declared.heard.Heard.{Heard}
use Rattle.droid_client.specs.declared.heard.Heard.TheVariants as heard
use Rattle.droid_lines.specs.Printed.{answer_line}
use Rattle.droid_lines.specs.declared.send_fault.SendFault.{SendFault}
use Rattle.droid_lines.specs.declared.send_fault.SendFault.TheVariants.{Memory, NumbersUsedUp, Frames, Closed, Replies}
use Rattle.droid_lines.specs.declared.send_fault.SendFault.TheVariants.{Malformed, Stranger, Repeated}
use Rattle.droid_lines.specs.Exchanges.{Exchange, Hears, IsTaken, LineSent, came_bytes, is_bad, printed, sent_bytes}
use Rattle.droid_lines.specs.Stopping.{ReadsOne, WritesFront}

-- a request is submitted and its frame sent
abbrev pub RequestGoes : {T : Type 0} → Core → VersionedRequest → Option (List ℕ) → Option (List ℕ) → Core
    → Result T SendFault → Type 0
RequestGoes core asked old new after (Ok done) =
    (next_number core ≢ 2 ^ 63) × (after ≡ core_submitting core asked.version asked.request)
    × Appends old new (frame_bytes (next_frame core asked.version asked.request))
RequestGoes core asked old new after (Err NumbersUsedUp) = (next_number core ≡ 2 ^ 63) × (after ≡ core) × Keeps old new
RequestGoes core asked old new after (Err Memory) = (after ≡ core) × Keeps old new
RequestGoes core asked old new after (Err Frames) =
    (next_number core ≢ 2 ^ 63) × (after ≡ core_submitting core asked.version asked.request)
    × WritesFront old new (frame_bytes (next_frame core asked.version asked.request))
RequestGoes core asked old new after (Err _) = ⊥

-- the frame of a reply is read
abbrev pub ReplyComes : Option (List ℕ) → Option (List ℕ) → Result Frame SendFault → Type 0
ReplyComes input left (Ok frame) = ReadsOne input left frame
ReplyComes input left (Err Closed) = IsAtEnd input × Consumes input left []
ReplyComes input left (Err (Replies fault)) = IfSome input (ImpliedBy fault) × ReadsNoFrame input left
ReplyComes input left (Err _) = ⊥

-- the core takes a reply, which prints `text`
pub record Takes (core : Core) (frame : Frame) (after : Core) (text : List ℕ) : Type 0 where
  pub reply : Reply
  pub heard : Heard
  pub taken : IsTaken heard
  pub hears : Hears core frame reply heard after
  pub prints : text ≡ answer_line (Some reply)

-- the core takes no reply
abbrev pub TakesNone : SendFault → Core → Frame → Core → Type 0
TakesNone Malformed core frame after =
    (after ≡ core) × ((reply : Reply) → ¬ SpellsReply frame.version frame.kind frame.body reply)
TakesNone Memory core frame after =
    ((after ≡ core) × (frame.kind ≡ 132)) ⊎ ((text : List ℕ) × Takes core frame after text)
TakesNone Stranger core frame after = (reply : Reply) × Hears core frame reply heard.Stranger after
TakesNone Repeated core frame after = (reply : Reply) × Hears core frame reply heard.Repeated after
TakesNone _ core frame after = ⊥

-- a line was sent, and what it prints was written
pub record LineDone (core : Core) (line : List ℕ) (input left old_frames new_frames old_text new_text : Option (List ℕ))
    (after : Core) (bad : Bool) : Type 0 where
  pub exchange : Option Exchange
  pub sent : LineSent core line exchange after
  pub read : Consumes input left (came_bytes exchange)
  pub frames : Appends old_frames new_frames (sent_bytes exchange)
  pub text : Appends old_text new_text (printed exchange)
  pub bad_is : bad ≡ is_bad line
