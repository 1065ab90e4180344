-- A service as a schedule sees it, and the outcomes of a request there (this project's own rule).
use Rattle.std.specs.Prelude.{◌≡◌, ◌≢◌, ℕ, nat_lt, Bool, true, false, List, [], ◌∷◌, ◌++◌, Some, None, is_some}
use Rattle.droid_frame.specs.declared.frame.Frame.{Frame}
use Rattle.droid_frame.specs.declared.refusal.Refusal.{Refusal}
use Rattle.droid_frame.specs.declared.refusal.Refusal.TheVariants.{NumberReused}
use Rattle.droid_frame.specs.declared.reply.Reply.{Reply}
use Rattle.droid_frame.specs.declared.reply.Reply.TheVariants.{Refused}
use Rattle.droid_core_spec.specs.Setting.{Setting}
use Rattle.droid_core_spec.specs.Histories.{Entry, History, kept, command, frame_mark, answer, next}
pub use Rattle.droid_frame.specs.Replies.{is_refused}

-- the kinds from 1 to 6 are commands; the others are queries, or none
abbrev pub is_command : Frame → Bool
is_command frame = nat_lt frame.kind 7

-- a service: which frames spell a request, the mark of a request, its answer, and the history after it
pub record Desk : Type 0 where
  pub is_spelled : Frame → Bool
  pub mark : Frame → List ℕ
  pub answer : History → Frame → Reply
  pub next : History → Frame → History

-- the service of this setting
abbrev pub desk_of : Setting → Desk
desk_of setting = record {
  is_spelled = λ frame.
      is_some (command frame);
  mark = frame_mark;
  answer = answer setting;
  next = next setting;
}

-- the entry that an accepted request with this reply makes
abbrev pub entry_at : Desk → Frame → Reply → Entry
entry_at desk frame reply = record { frame = frame; mark = desk.mark frame; reply = reply }

-- the entry has its request's mark, and a reply that is no refusal
pub record IsAccepted (desk : Desk) (entry : Entry) : Type 0 where
  pub marked : entry.mark ≡ desk.mark entry.frame
  pub accepted : is_refused entry.reply ≡ false

-- the outcomes of a request
pub data Answering (desk : Desk) (history : History) (frame : Frame) : Type 0 where
  -- it is kept, and gets the kept reply
  Again : (entry : Entry) → kept history frame.client frame.number ≡ Some entry
      → desk.answer history frame ≡ entry.reply
      → desk.next history frame ≡ history → Answering desk history frame
  -- it is a command under a new number, and is accepted
  Accepts : kept history frame.client frame.number ≡ None → is_command frame ≡ true
      → is_refused (desk.answer history frame) ≡ false
      → desk.next history frame ≡ history ++ entry_at desk frame (desk.answer history frame) ∷ []
      → Answering desk history frame
  -- it is refused, and not for a number used again
  Refuses : (refusal : Refusal) → refusal ≢ NumberReused → desk.answer history frame ≡ Refused refusal
      → desk.next history frame ≡ history → Answering desk history frame
  -- it is a query, and is answered
  Queries : is_command frame ≡ false → is_refused (desk.answer history frame) ≡ false
      → desk.next history frame ≡ history → Answering desk history frame

-- what is kept under the number of this request is this very request
abbrev pub IsItsOwn : Desk → History → Frame → Type 0
IsItsOwn desk history frame =
    (entry : Entry) → kept history frame.client frame.number ≡ Some entry
    → IsAccepted desk entry × (entry.frame ≡ frame)

-- each request whose number is new, or is kept with this very request, has one of these outcomes
pub record IsDesk (desk : Desk) : Type 0 where
  pub comes : (history : History) (frame : Frame) → IsItsOwn desk history frame → Answering desk history frame
