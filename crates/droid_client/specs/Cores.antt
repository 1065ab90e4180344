-- A client's core: what it keeps, its two steps, and what it returns (this project's own rule).
use Rattle.std.specs.Prelude.{ℕ, ◌+◌, ◌-◌, ◌==◌, ◌&&◌, ◌||◌, nat_lt, if◌then◌else◌, Bool, true, List, [], ◌∷◌, ◌++◌}
use Rattle.std.specs.Prelude.{length, slice_set, Option, Some, None}
use Rattle.std.specs.List.{slice_get, filter_map}
use Rattle.droid_frame.specs.declared.frame.Frame.{Frame}
use Rattle.droid_frame.specs.declared.refusal.Refusal.{Refusal}
use Rattle.droid_frame.specs.declared.reply.Reply.{Reply}
use Rattle.droid_frame.specs.declared.reply.Reply.TheVariants.{Made, Node, Taken, Finished, Abandoned, Progress, Part}
use Rattle.droid_frame.specs.declared.reply.Reply.TheVariants.{Refused}
use Rattle.droid_frame.specs.declared.request.Request.{Request}
use Rattle.droid_frame.specs.Bodies.{request_kind, request_body}
use Rattle.droid_client.specs.declared.heard.Heard.{Heard}
use Rattle.droid_client.specs.declared.heard.Heard.TheVariants as heard
use Rattle.droid_client.specs.declared.slot.Slot.{Slot}
use Rattle.droid_client.specs.declared.slot.State.{State}
use Rattle.droid_client.specs.declared.slot.State.TheVariants.{Pending, Answered}

-- a client, and a slot for each submitted request: slot k belongs to the number first + k
pub record Core : Type 0 where
  pub client : ℕ
  pub first : ℕ
  pub slots : List Slot

-- before anything is submitted
abbrev pub new_core : ℕ → ℕ → Core
new_core client first = record { client = client; first = first; slots = [] }

-- ---- submitting

-- the number that the next request gets
abbrev pub next_number : Core → ℕ
next_number core = core.first + length core.slots

-- the frame of a request in a version: its kind and its spelling in that version
abbrev pub frame_of : ℕ → ℕ → ℕ → Request → Frame
frame_of version client number request =
    record {
      version = version;
      kind = request_kind request;
      client = client;
      number = number;
      body = request_body version request;
    }

-- the frame of the next request
abbrev pub next_frame : Core → ℕ → Request → Frame
next_frame core version request = frame_of version core.client (next_number core) request

-- a request that was just submitted: neither answered nor refused
abbrev pub new_slot : Frame → Slot
new_slot frame = record { version = frame.version; kind = frame.kind; state = Pending frame; refusal = None }

-- the core after a request was submitted in a version
abbrev pub core_submitting : Core → ℕ → Request → Core
core_submitting core version request =
    record core { slots = core.slots ++ new_slot (next_frame core version request) ∷ [] }

-- ---- taking a reply

-- the reply answers a request of this kind; a refusal answers every kind
abbrev pub belongs : ℕ → Reply → Bool
belongs kind (Made profile) = kind == 1
belongs kind (Node id) = (kind == 2) || (kind == 3)
belongs kind (Taken held) = kind == 4
belongs kind (Finished method mismatch hash puids) = kind == 5
belongs kind Abandoned = kind == 6
belongs kind (Progress held missing) = kind == 7
belongs kind (Part as_of total bytes) = kind == 8
belongs kind (Refused refusal) = true

-- the refusal, where the reply is one
abbrev pub refusal_in : Reply → Option Refusal
refusal_in (Refused refusal) = Some refusal
refusal_in _ = None

-- what a reply to a pending request means
abbrev pub heard_pending : Reply → Heard
heard_pending (Refused refusal) = heard.Refused
heard_pending _ = heard.Answered

-- the same, by whether the request has an answer
abbrev pub heard_in : State → Reply → Heard
heard_in (Pending frame) reply = heard_pending reply
heard_in (Answered answer) reply = heard.Repeated

-- a reply belongs to the request of a slot: it has the request's version and a kind that answers it
abbrev pub belongs_at : Slot → ℕ → Reply → Bool
belongs_at slot version reply = (version == slot.version) && belongs slot.kind reply

-- what a reply in a version means for the request of a slot
abbrev pub heard_at : Slot → ℕ → Reply → Heard
heard_at slot version reply = if belongs_at slot version reply then heard_in slot.state reply else heard.Stranger

-- the same, by whether anything was submitted under the number
abbrev pub heard_by : Option Slot → ℕ → Reply → Heard
heard_by None version reply = heard.Stranger
heard_by (Some slot) version reply = heard_at slot version reply

-- the slot of a number, if it was submitted
abbrev pub slot_at : Core → ℕ → Option Slot
slot_at core number = if nat_lt number core.first then None else slice_get core.slots (number - core.first)

-- what a reply in this version to this client's request with this number means
abbrev pub heard_of : Core → ℕ → ℕ → ℕ → Reply → Heard
heard_of core version client number reply =
    if client == core.client then heard_by (slot_at core number) version reply else heard.Stranger

-- an answer replaces the frame, and a refusal an earlier one
abbrev pub slot_after : Slot → Reply → Heard → Slot
slot_after slot reply heard.Answered = record slot { state = Answered reply }
slot_after slot reply heard.Refused = record slot { refusal = refusal_in reply }
slot_after slot reply heard.Repeated = slot
slot_after slot reply heard.Stranger = slot

-- the slot after a reply in a version to its request
abbrev pub slot_hearing : Slot → ℕ → Reply → Slot
slot_hearing slot version reply = slot_after slot reply (heard_at slot version reply)

-- only the slot of the number hears the reply
abbrev pub slots_hearing : Core → ℕ → ℕ → Reply → Option Slot → List Slot
slots_hearing core version number reply None = core.slots
slots_hearing core version number reply (Some slot) =
    slice_set core.slots (number - core.first) (slot_hearing slot version reply)

-- the core after a reply in this version to this client's request with this number
abbrev pub core_hearing : Core → ℕ → ℕ → ℕ → Reply → Core
core_hearing core version client number reply =
    if client == core.client then record core { slots = slots_hearing core version number reply (slot_at core number) }
    else core

-- ---- what a core returns

-- the reply that answers the request, if one came
abbrev pub answer_in : State → Option Reply
answer_in (Pending frame) = None
answer_in (Answered answer) = Some answer

-- the same, of a number under which nothing may have been submitted
abbrev pub slot_answer : Option Slot → Option Reply
slot_answer None = None
slot_answer (Some slot) = answer_in slot.state

-- the kept answer to the request with this number
abbrev pub answer_of : Core → ℕ → Option Reply
answer_of core number = slot_answer (slot_at core number)

-- the last refusal, of a number under which nothing may have been submitted
abbrev pub slot_refusal : Option Slot → Option Refusal
slot_refusal None = None
slot_refusal (Some slot) = slot.refusal

-- the kept last refusal of the request with this number
abbrev pub refusal_of : Core → ℕ → Option Refusal
refusal_of core number = slot_refusal (slot_at core number)

-- the frame of the request, which is kept until the answer comes
abbrev pub pending_in : State → Option Frame
pending_in (Pending frame) = Some frame
pending_in (Answered answer) = None

-- the kept frames, in order
abbrev pub frames_pending : List Slot → List Frame
frames_pending slots = filter_map (λ slot. pending_in slot.state) slots

-- the frames of the requests that have no answer, in order
abbrev pub pending_of : Core → List Frame
pending_of core = frames_pending core.slots
