-- Schedules of deliveries: what may happen between clients' cores and a service (this project's own rule).
use Rattle.std.specs.Prelude.{◌≡◌, ◌≢◌, ℕ, ◌^◌, ◌≤◌, nat_lt, if◌then◌else◌, true, false, List, [], ◌∷◌, ◌++◌, map}
use Rattle.std.specs.Prelude.{slice_set, Contains, count_by, Option, Some, None}
use Rattle.std.specs.List.{slice_get}
use Rattle.droid_frame.specs.declared.frame.Frame.{Frame}
use Rattle.droid_frame.specs.declared.refusal.Refusal.{Refusal}
use Rattle.droid_frame.specs.declared.refusal.Refusal.TheVariants.{NumberReused, Memory, Store}
use Rattle.droid_frame.specs.declared.reply.Reply.{Reply}
use Rattle.droid_frame.specs.declared.reply.Reply.TheVariants.{Refused}
use Rattle.droid_frame.specs.declared.request.Request.{Request}
use Rattle.droid_client.specs.Cores.{Core, new_core, next_number, next_frame, core_submitting, core_hearing, answer_of}
use Rattle.droid_core_spec.specs.Histories.{Entry, History, is_under}
use Rattle.droid_wire.specs.Desks.{Desk, is_command}

-- a reply that was sent, and the version, the client and the number of its request
pub record Sent : Type 0 where
  pub version : ℕ
  pub client : ℕ
  pub number : ℕ
  pub reply : Reply

-- the state at one moment
pub record Moment : Type 0 where
  pub history : History
  pub cores : List Core
  -- every frame that was ever submitted, and every reply that was ever sent
  pub frames : List Frame
  pub replies : List Sent

-- what the service was out of, and refused a request for
pub data Failure : Type 0 where
  OfMemory : Failure
  OfStore : Failure

-- what may happen next; a loss is a delivery that never comes
pub data Event : Type 0 where
  -- a core submits a request in a version
  Submits : (core version : ℕ) (request : Request) → Event
  -- a frame that was submitted arrives at the service, which answers it
  Arrives : (frame : ℕ) → Event
  -- the same, and the service refuses it for lack of storage or memory
  FailsForMemory : (frame : ℕ) (failure : Failure) → Event
  -- a reply that was sent arrives at a core, which takes it
  Replies : (core : ℕ) (reply : ℕ) → Event
  -- the same, and the core is out of memory for it
  Drops : (core : ℕ) (reply : ℕ) → Event

-- new cores of these clients, each with its first number, and nothing sent
abbrev pub start : List (ℕ × ℕ) → Moment
start clients =
    record { history = []; cores = map (λ client. new_core client.0 client.1) clients; frames = []; replies = [] }

-- ---- the steps

-- a core submits, if it is one of the cores and has a number left
abbrev pub submitted : Moment → ℕ → ℕ → Request → Option Core → Moment
submitted moment which version request None = moment
submitted moment which version request (Some core) =
    if nat_lt (next_number core) (2 ^ 63)
    then record {
      history = moment.history;
      cores = slice_set moment.cores which (core_submitting core version request);
      frames = moment.frames ++ next_frame core version request ∷ [];
      replies = moment.replies;
    }
    else moment

-- a reply, as it is sent to the request of a frame
abbrev pub reply_to : Frame → Reply → Sent
reply_to frame reply = record { version = frame.version; client = frame.client; number = frame.number; reply = reply }

-- the service answers a frame, if it was submitted
abbrev pub arrived : Desk → Moment → Option Frame → Moment
arrived desk moment None = moment
arrived desk moment (Some frame) =
    record {
      history = desk.next moment.history frame;
      cores = moment.cores;
      frames = moment.frames;
      replies = moment.replies ++ reply_to frame (desk.answer moment.history frame) ∷ [];
    }

-- how the service says what it was out of
abbrev pub refusal_for : Failure → Refusal
refusal_for OfMemory = Memory
refusal_for OfStore = Store

-- a request that isn't spelled never gets this reply
abbrev pub wanted : Desk → Moment → Failure → Option Frame → Moment
wanted desk moment failure None = moment
wanted desk moment failure (Some frame) =
    if desk.is_spelled frame
    then record {
      history = moment.history;
      cores = moment.cores;
      frames = moment.frames;
      replies = moment.replies ++ reply_to frame (Refused (refusal_for failure)) ∷ [];
    }
    else moment

-- a core takes a reply, if both are there
abbrev pub replied : Moment → ℕ → Option Core → Option Sent → Moment
replied moment which None sent = moment
replied moment which (Some core) None = moment
replied moment which (Some core) (Some sent) =
    record {
      history = moment.history;
      cores = slice_set moment.cores which (core_hearing core sent.version sent.client sent.number sent.reply);
      frames = moment.frames;
      replies = moment.replies;
    }

-- the state after an event; one about a core, a frame or a reply that isn't there changes nothing
abbrev pub happens : Desk → Moment → Event → Moment
happens desk moment (Submits core version request) = submitted moment core version request (slice_get moment.cores core)
happens desk moment (Arrives frame) = arrived desk moment (slice_get moment.frames frame)
happens desk moment (FailsForMemory frame failure) = wanted desk moment failure (slice_get moment.frames frame)
happens desk moment (Replies core reply) =
    replied moment core (slice_get moment.cores core) (slice_get moment.replies reply)
happens desk moment (Drops core reply) = moment

-- the state after a whole schedule
abbrev pub run : Desk → List Event → Moment → Moment
run desk [] moment = moment
run desk (event ∷ events) moment = run desk events (happens desk moment event)

-- ---- properties of a state

-- frames of one client under one number are equal
abbrev pub AreOnes : List Frame → Type 0
AreOnes frames =
    (one other : Frame) → Contains frames one → Contains frames other → one.client ≡ other.client
    → one.number ≡ other.number → one ≡ other

-- the history has exactly one entry of this request's client and number: this very request, with this reply
pub record IsOnlyEntry (history : History) (frame : Frame) (reply : Reply) : Type 0 where
  pub once : count_by (is_under frame.client frame.number) history ≡ 1
  pub entry : Entry
  pub is_there : Contains history entry
  pub is_request : entry.frame ≡ frame
  pub is_reply : entry.reply ≡ reply

-- at some event this very request arrived, and the service answered this
pub record WasAnswer (desk : Desk) (from : Moment) (events : List Event) (frame : Frame) (reply : Reply) : Type 0 where
  pub before : List Event
  pub which : ℕ
  pub after : List Event
  pub parts : before ++ Arrives which ∷ after ≡ events
  pub arriving : slice_get (run desk before from).frames which ≡ Some frame
  pub is_reply : reply ≡ desk.answer (run desk before from).history frame

-- a held answer: its request was submitted; for a command it is the reply in the one entry, for a query what the
-- service answered to it at some event
pub record IsHeld (desk : Desk) (from : Moment) (events : List Event) (core : Core) (number : ℕ) (reply : Reply)
    : Type 0 where
  pub frame : Frame
  pub submitted : Contains (run desk events from).frames frame
  pub client_is : frame.client ≡ core.client
  pub number_is : frame.number ≡ number
  pub command : is_command frame ≡ true → IsOnlyEntry (run desk events from).history frame reply
  pub query : is_command frame ≡ false → WasAnswer desk from events frame reply

-- each answer that a core holds
abbrev pub AreHeld : Desk → Moment → List Event → Type 0
AreHeld desk from events =
    (which number : ℕ) (core : Core) (reply : Reply) → slice_get (run desk events from).cores which ≡ Some core
    → answer_of core number ≡ Some reply → IsHeld desk from events core number reply

-- no submitted request has two entries
abbrev pub AreOnce : Moment → Type 0
AreOnce moment =
    (frame : Frame) → Contains moment.frames frame → count_by (is_under frame.client frame.number) moment.history ≤ 1

-- no reply refuses a request because its number was used for another
abbrev pub NoneReused : Moment → Type 0
NoneReused moment = (sent : Sent) → Contains moment.replies sent → sent.reply ≢ Refused NumberReused

-- the answer that a core holds, if it is one of the cores
abbrev pub core_answer : Option Core → ℕ → Option Reply
core_answer None number = None
core_answer (Some core) number = answer_of core number

-- the answer that this core holds for this number
abbrev pub answer_at : Moment → ℕ → ℕ → Option Reply
answer_at moment which number = core_answer (slice_get moment.cores which) number

-- no two cores belong to one client
abbrev pub AreApart : List (ℕ × ℕ) → Type 0
AreApart clients =
    (which other : ℕ) (one two : ℕ × ℕ) → slice_get clients which ≡ Some one → slice_get clients other ≡ Some two
    → one.0 ≡ two.0 → which ≡ other
