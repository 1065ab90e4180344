-- Requests that are sent, and the replies that come back (this project's own rule).
use Rattle.std.specs.Prelude.{◌≡◌, ◌≢◌, ℕ, ◌^◌, Bool, List, [], ◌∷◌, Option, Some, None, is_none}
use Rattle.droid_frame.specs.Frames.{frame_bytes}
use Rattle.droid_frame.specs.Replies.{SpellsReply}
use Rattle.droid_frame.specs.Streams.{IsReadable}
use Rattle.droid_frame.specs.declared.frame.Frame.{Frame}
use Rattle.droid_frame.specs.declared.reply.Reply.{Reply}
use Rattle.droid_lines.specs.declared.parser.VersionedRequest.{VersionedRequest}
use Rattle.droid_client.specs.Cores.{Core, core_hearing, core_submitting, heard_of, next_frame, next_number}
use Rattle.droid_client.specs.declared.heard.Heard.{Heard}
use Rattle.droid_client.specs.declared.heard.Heard.TheVariants as heard
use Rattle.droid_lines.specs.Lines.{request_value}
use Rattle.droid_lines.specs.Printed.{answer_line}

-- a request's frame, the frame that came next, and the reply that it holds
pub record Exchange : Type 0 where
  pub sent : Frame
  pub came : Frame
  pub reply : Reply

-- the core takes the reply: it is an answer or a refusal
abbrev pub IsTaken : Heard → Type 0
IsTaken heard.Answered = Unit {0}
IsTaken heard.Refused = Unit {0}
IsTaken heard.Repeated = ⊥
IsTaken heard.Stranger = ⊥

-- the frame holds this reply, which means `heard` to the core and leads to the core `after`
pub record Hears (core : Core) (frame : Frame) (reply : Reply) (heard : Heard) (after : Core) : Type 0 where
  pub spelled : SpellsReply frame.version frame.kind frame.body reply
  pub heard_is : heard_of core frame.version frame.client frame.number reply ≡ heard
  pub after_is : after ≡ core_hearing core frame.version frame.client frame.number reply

-- The core submits the request, whose frame is sent in its version and with the next number. Then a frame comes, and
-- the reply that it holds means `heard` to the core.
pub record Exchanges (core : Core) (asked : VersionedRequest) (exchange : Exchange) (heard : Heard) (after : Core)
    : Type 0 where
  pub number_left : next_number core ≢ 2 ^ 63
  pub sent_is : exchange.sent ≡ next_frame core asked.version asked.request
  pub readable : IsReadable exchange.came
  pub hears : Hears (core_submitting core asked.version asked.request) exchange.came exchange.reply heard after

-- ---- lines

-- a good line's request is sent, and the core takes the reply
pub record GoodLine (core : Core) (line : List ℕ) (exchange : Exchange) (after : Core) : Type 0 where
  pub asked : VersionedRequest
  pub asks : request_value line ≡ Some asked
  pub heard : Heard
  pub taken : IsTaken heard
  pub exchanges : Exchanges core asked exchange heard after

-- a bad line has no request, sends nothing and leaves the core unchanged
pub record BadLine (core : Core) (line : List ℕ) (after : Core) : Type 0 where
  pub asks : request_value line ≡ None
  pub same : after ≡ core

-- a line, and its exchange unless it is bad
abbrev pub LineSent : Core → List ℕ → Option Exchange → Core → Type 0
LineSent core line None after = BadLine core line after
LineSent core line (Some exchange) after = GoodLine core line exchange after

-- lines, one after another, each from the core after the one before
abbrev pub LinesSent : Core → List (List ℕ) → List (Option Exchange) → Core → Type 0
LinesSent core [] [] after = after ≡ core
LinesSent core [] (exchange ∷ exchanges) after = ⊥
LinesSent core (line ∷ lines) [] after = ⊥
LinesSent core (line ∷ lines) (exchange ∷ exchanges) after =
    (middle : Core) × LineSent core line exchange middle × LinesSent middle lines exchanges after

-- a line without a request
abbrev pub is_bad : List ℕ → Bool
is_bad line = is_none (request_value line)

-- ---- what goes over the streams for a line

-- the frame of its request
abbrev pub sent_bytes : Option Exchange → List ℕ
sent_bytes None = []
sent_bytes (Some exchange) = frame_bytes exchange.sent

-- the frame of its reply
abbrev pub came_bytes : Option Exchange → List ℕ
came_bytes None = []
came_bytes (Some exchange) = frame_bytes exchange.came

-- what it prints: its reply, or that it is bad
abbrev pub printed : Option Exchange → List ℕ
printed None = answer_line None
printed (Some exchange) = answer_line (Some exchange.reply)
