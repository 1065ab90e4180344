-- Where sending one line ends early, and the state after that (this project's own rule).
use Rattle.std.specs.Prelude.{◌≡◌, ◌≢◌, ℕ, ◌^◌, ◌<◌, ◌⊎◌, List, [], length, take, Option, Some, None, IfSome}
use Rattle.std.specs.Io.KnownBytes.{Appends, Consumes, IsAtEnd, Keeps}
use Rattle.droid_frame.specs.Frames.{frame_bytes}
use Rattle.droid_frame.specs.Replies.{SpellsReply}
use Rattle.droid_frame.specs.StreamReads.{ReadsNoFrame, ImpliedBy}
use Rattle.droid_frame.specs.Streams.{IsReadable}
use Rattle.droid_frame.specs.declared.frame.Frame.{Frame}
use Rattle.droid_frame.specs.declared.reply.Reply.{Reply}
use Rattle.droid_lines.specs.declared.parser.VersionedRequest.{VersionedRequest}
use Rattle.droid_client.specs.Cores.{Core, core_submitting, next_frame, next_number}
use Rattle.droid_client.specs.declared.heard.Heard.{Heard}
use Rattle.droid_client.specs.declared.heard.Heard.TheVariants as heard
use Rattle.droid_lines.specs.Lines.{request_value}
use Rattle.droid_lines.specs.Printed.{answer_line}
use Rattle.droid_lines.specs.declared.send_fault.SendFault.{SendFault}
use Rattle.droid_lines.specs.declared.send_fault.SendFault.TheVariants.{Lines, Memory, NumbersUsedUp, Frames, Closed}
use Rattle.droid_lines.specs.declared.send_fault.SendFault.TheVariants.{Replies, Malformed, Stranger, Repeated, Text}
use Rattle.droid_lines.specs.Exchanges.{Exchange, Exchanges, IsTaken}

-- a writer's bytes grew by the first of these, but not all
pub record WritesFront (old new : Option (List ℕ)) (bytes : List ℕ) : Type 0 where
  pub count : ℕ
  pub some_left : count < length bytes
  pub writes : Appends old new (take count bytes)

-- nothing was submitted, read or written
pub record Unsent (core : Core) (input left old new : Option (List ℕ)) (after : Core) : Type 0 where
  pub same : after ≡ core
  pub read : Consumes input left []
  pub written : Keeps old new

-- the request was submitted, and only the first bytes of its frame were written
pub record Unwritten (core : Core) (asked : VersionedRequest) (input left old new : Option (List ℕ)) (after : Core)
    : Type 0 where
  pub number_left : next_number core ≢ 2 ^ 63
  pub submitted : after ≡ core_submitting core asked.version asked.request
  pub read : Consumes input left []
  pub written : WritesFront old new (frame_bytes (next_frame core asked.version asked.request))

-- the request was submitted and its frame was written; no reply was taken
pub record Unheard (core : Core) (asked : VersionedRequest) (old new : Option (List ℕ)) (after : Core) : Type 0 where
  pub number_left : next_number core ≢ 2 ^ 63
  pub submitted : after ≡ core_submitting core asked.version asked.request
  pub written : Appends old new (frame_bytes (next_frame core asked.version asked.request))

-- a frame was read
pub record ReadsOne (input left : Option (List ℕ)) (frame : Frame) : Type 0 where
  pub readable : IsReadable frame
  pub read : Consumes input left (frame_bytes frame)

-- the request was sent, and the reply that came means `heard` to the core
pub record IsHeardAs (core : Core) (asked : VersionedRequest) (input left old new : Option (List ℕ)) (after : Core)
    (exchange : Exchange) (heard : Heard) : Type 0 where
  pub exchanges : Exchanges core asked exchange heard after
  pub read : Consumes input left (frame_bytes exchange.came)
  pub written : Appends old new (frame_bytes exchange.sent)

-- this holds for some exchange
abbrev pub HeardAs : Core → VersionedRequest → Option (List ℕ) → Option (List ℕ) → Option (List ℕ) → Option (List ℕ)
    → Core → Heard → Type 0
HeardAs core asked input left old new after heard =
    (exchange : Exchange) × IsHeardAs core asked input left old new after exchange heard

-- the core took the reply, which prints `text`
pub record Exchanged (core : Core) (asked : VersionedRequest) (input left old new : Option (List ℕ)) (after : Core)
    (text : List ℕ) : Type 0 where
  pub exchange : Exchange
  pub heard : Heard
  pub taken : IsTaken heard
  pub is_heard : IsHeardAs core asked input left old new after exchange heard
  pub prints : text ≡ answer_line (Some exchange.reply)

-- What each fault says about a request:
abbrev pub RequestStops : SendFault → Core → VersionedRequest → Option (List ℕ) → Option (List ℕ) → Option (List ℕ)
    → Option (List ℕ) → Core → Type 0
-- there was no number left
RequestStops NumbersUsedUp core asked input left old new after =
    (next_number core ≡ 2 ^ 63) × Unsent core input left old new after
-- the frame could not be written
RequestStops Frames core asked input left old new after = Unwritten core asked input left old new after
-- the replies ended where one was due
RequestStops Closed core asked input left old new after =
    Unheard core asked old new after × IsAtEnd input × Consumes input left []
-- the rest of the replies begins with no frame, for this reason
RequestStops (Replies fault) core asked input left old new after =
    Unheard core asked old new after × IfSome input (ImpliedBy fault) × ReadsNoFrame input left
-- a frame came that holds no reply
RequestStops Malformed core asked input left old new after =
    Unheard core asked old new after × (frame : Frame) × ReadsOne input left frame
    × ((reply : Reply) → ¬ SpellsReply frame.version frame.kind frame.body reply)
-- a reply came that the core doesn't take
RequestStops Stranger core asked input left old new after = HeardAs core asked input left old new after heard.Stranger
RequestStops Repeated core asked input left old new after = HeardAs core asked input left old new after heard.Repeated
-- out of memory: before anything was sent; or to take the reply, which is a Finished; or to print it
RequestStops Memory core asked input left old new after =
    Unsent core input left old new after
    ⊎ ((Unheard core asked old new after × (frame : Frame) × ReadsOne input left frame × (frame.kind ≡ 132))
    ⊎ ((text : List ℕ) × Exchanged core asked input left old new after text))
-- these don't come from a request
RequestStops Lines core asked input left old new after = ⊥
RequestStops Text core asked input left old new after = ⊥

-- what a line prints could not be written: its reply, or that it is bad
pub record Unprinted (core : Core) (line : List ℕ)
    (input left old_frames new_frames old_text new_text : Option (List ℕ)) (after : Core) : Type 0 where
  pub asked : VersionedRequest
  pub asks : request_value line ≡ Some asked
  pub text : List ℕ
  pub exchanged : Exchanged core asked input left old_frames new_frames after text
  pub written : WritesFront old_text new_text text

-- the line is bad, nothing was sent, and only the front of what it prints was written
pub record UnprintedBad (core : Core) (line : List ℕ)
    (input left old_frames new_frames old_text new_text : Option (List ℕ)) (after : Core) : Type 0 where
  pub asks : request_value line ≡ None
  pub unsent : Unsent core input left old_frames new_frames after
  pub written : WritesFront old_text new_text (answer_line None)

-- the line's request ended with this fault, and nothing was printed
pub record StopsAt (fault : SendFault) (core : Core) (line : List ℕ)
    (input left old_frames new_frames old_text new_text : Option (List ℕ)) (after : Core) : Type 0 where
  pub asked : VersionedRequest
  pub asks : request_value line ≡ Some asked
  pub stops : RequestStops fault core asked input left old_frames new_frames after
  pub unprinted : Keeps old_text new_text

-- nothing was done for a line
abbrev pub Undone : Core → Option (List ℕ) → Option (List ℕ) → Option (List ℕ) → Option (List ℕ) → Option (List ℕ)
    → Option (List ℕ) → Core → Type 0
Undone core input left old_frames new_frames old_text new_text after =
    Unsent core input left old_frames new_frames after × Keeps old_text new_text

-- what each fault says about a line
abbrev pub LineStops : SendFault → Core → List ℕ → Option (List ℕ) → Option (List ℕ) → Option (List ℕ) → Option (List ℕ)
    → Option (List ℕ) → Option (List ℕ) → Core → Type 0
LineStops Text core line input left old_frames new_frames old_text new_text after =
    Unprinted core line input left old_frames new_frames old_text new_text after
    ⊎ UnprintedBad core line input left old_frames new_frames old_text new_text after
LineStops Memory core line input left old_frames new_frames old_text new_text after =
    Undone core input left old_frames new_frames old_text new_text after
    ⊎ StopsAt Memory core line input left old_frames new_frames old_text new_text after
LineStops fault core line input left old_frames new_frames old_text new_text after =
    StopsAt fault core line input left old_frames new_frames old_text new_text after
