-- What holds at each moment of a schedule.
use Rattle.std.proofs.Common.{◌≡◌, ◌≢◌, ℕ, ◌+◌, ◌≤◌, true, false, List, Some}
use Rattle.std.specs.List.{Contains, count_by, slice_get}
use Rattle.droid_frame.specs.declared.frame.Frame.{Frame}
use Rattle.droid_frame.specs.declared.refusal.Refusal.{Refusal}
use Rattle.droid_frame.specs.declared.refusal.Refusal.TheVariants.{NumberReused}
use Rattle.droid_frame.specs.declared.reply.Reply.{Reply}
use Rattle.droid_frame.specs.declared.reply.Reply.TheVariants.{Refused}
use Rattle.droid_core_spec.specs.Histories.{Entry, History, is_under}
use Rattle.droid_client.specs.declared.slot.Slot.{Slot}
use Rattle.droid_client.specs.declared.slot.State.{State}
use Rattle.droid_client.specs.declared.slot.State.TheVariants.{Pending, Answered}
use Rattle.droid_client.specs.Cores.{Core}
use Rattle.droid_wire.specs.Desks.{Desk, IsAccepted, is_command, is_refused}
use Rattle.droid_wire.specs.Schedules.{Moment, Sent}

-- everything in the first list is in the second
abbrev pub Within : {X : Type 0} → List X → List X → Type 0
Within {X} xs ys = (x : X) → Contains xs x → Contains ys x

-- an entry is of a command that was submitted
pub record IsEntry (desk : Desk) (frames : List Frame) (entry : Entry) : Type 0 where
  pub submitted : Contains frames entry.frame
  pub command : is_command entry.frame ≡ true
  pub sound : IsAccepted desk entry

-- what a reply to this request says: a refusal, the reply of its entry, or what a query was answered at some moment
pub data Says (Was : History → Frame → Type 0) (desk : Desk) (history : History) (frame : Frame) (reply : Reply) : Type 0 where
  Refusing : (refusal : Refusal) → refusal ≢ NumberReused → reply ≡ Refused refusal → Says Was desk history frame reply
  Kept : (entry : Entry) → Contains history entry → entry.frame ≡ frame → entry.reply ≡ reply → is_refused reply ≡ false → Says Was desk history frame reply
  Reported : (past : History) → Was past frame → is_command frame ≡ false → reply ≡ desk.answer past frame → is_refused reply ≡ false → Says Was desk history frame reply

-- a request that was submitted under this client and number
pub record IsRequest (frames : List Frame) (frame : Frame) (client number : ℕ) : Type 0 where
  pub submitted : Contains frames frame
  pub client_is : frame.client ≡ client
  pub number_is : frame.number ≡ number

pub record IsReply (Was : History → Frame → Type 0) (desk : Desk) (history : History) (frames : List Frame) (sent : Sent) : Type 0 where
  pub frame : Frame
  pub request : IsRequest frames frame sent.client sent.number
  pub says : Says Was desk history frame sent.reply

-- what a state of a slot says of the request
abbrev pub IsState : (History → Frame → Type 0) → Desk → History → Frame → State → Type 0
IsState Was desk history frame (Pending waiting) = waiting ≡ frame
IsState Was desk history frame (Answered reply) = Says Was desk history frame reply × (is_refused reply ≡ false)

pub record IsSlot (Was : History → Frame → Type 0) (desk : Desk) (history : History) (frames : List Frame) (client number : ℕ) (slot : Slot) : Type 0 where
  pub frame : Frame
  pub request : IsRequest frames frame client number
  pub kind_is : slot.kind ≡ frame.kind
  pub state : IsState Was desk history frame slot.state

abbrev pub IsCore : (History → Frame → Type 0) → Desk → History → List Frame → Core → Type 0
IsCore Was desk history frames core = (place : ℕ) (slot : Slot) → slice_get core.slots place ≡ Some slot → IsSlot Was desk history frames core.client (core.first + place) slot

-- the invariant
pub record Holds (Was : History → Frame → Type 0) (desk : Desk) (moment : Moment) : Type 0 where
  pub entries : (entry : Entry) → Contains moment.history entry → IsEntry desk moment.frames entry
  pub once : (client number : ℕ) → count_by (is_under client number) moment.history ≤ 1
  pub replies : (sent : Sent) → Contains moment.replies sent → IsReply Was desk moment.history moment.frames sent
  pub cores : (which : ℕ) (core : Core) → slice_get moment.cores which ≡ Some core → IsCore Was desk moment.history moment.frames core

-- ---- more entries and more frames take nothing away

pub same_within : {X : Type 0} (xs : List X) → Within xs xs
same_within xs x there = there

says_more : (Was : History → Frame → Type 0) (desk : Desk) (history later : History) (frame : Frame) (reply : Reply) → Within history later → Says Was desk history frame reply → Says Was desk later frame reply
says_more Was desk history later frame reply more (Refusing refusal other is) = Refusing refusal other is
says_more Was desk history later frame reply more (Kept entry there own is accepted) = Kept entry (more entry there) own is accepted
says_more Was desk history later frame reply more (Reported past was query is reported) = Reported past was query is reported

request_more : (frames more : List Frame) (frame : Frame) (client number : ℕ) → Within frames more → IsRequest frames frame client number → IsRequest more frame client number
request_more frames more frame client number within is = record { submitted = within frame is.submitted; client_is = is.client_is; number_is = is.number_is }

pub reply_more : (Was : History → Frame → Type 0) (desk : Desk) (history later : History) (frames more : List Frame) (sent : Sent) → Within history later → Within frames more → IsReply Was desk history frames sent → IsReply Was desk later more sent
reply_more Was desk history later frames more sent longer within is = record {
  frame = is.frame;
  request = request_more frames more is.frame sent.client sent.number within is.request;
  says = says_more Was desk history later is.frame sent.reply longer is.says;
}

state_more : (Was : History → Frame → Type 0) (desk : Desk) (history later : History) (frame : Frame) (state : State) → Within history later → IsState Was desk history frame state → IsState Was desk later frame state
state_more Was desk history later frame (Pending pending) longer is = is
state_more Was desk history later frame (Answered reply) longer is = (says_more Was desk history later frame reply longer is.0, is.1)

pub slot_more : (Was : History → Frame → Type 0) (desk : Desk) (history later : History) (frames more : List Frame) (client number : ℕ) (slot : Slot) → Within history later → Within frames more
    → IsSlot Was desk history frames client number slot → IsSlot Was desk later more client number slot
slot_more Was desk history later frames more client number slot longer within is = record {
  frame = is.frame;
  request = request_more frames more is.frame client number within is.request;
  kind_is = is.kind_is;
  state = state_more Was desk history later is.frame slot.state longer is.state;
}

pub core_more : (Was : History → Frame → Type 0) (desk : Desk) (history later : History) (frames more : List Frame) (core : Core) → Within history later → Within frames more → IsCore Was desk history frames core → IsCore Was desk later more core
core_more Was desk history later frames more core longer within is place slot there = slot_more Was desk history later frames more core.client (core.first + place) slot longer within (is place slot there)

pub entry_more : (desk : Desk) (frames more : List Frame) (entry : Entry) → Within frames more → IsEntry desk frames entry → IsEntry desk more entry
entry_more desk frames more entry within is = record { submitted = within entry.frame is.submitted; command = is.command; sound = is.sound }
