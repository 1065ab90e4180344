-- What a request meets in a history by what it asks and what is kept under its number; so what it is answered, and
-- which history comes next.
use Rattle.std.proofs.Common.{◌≡◌, Bool, true, false, cond, Option, Some, None, refl, ap, ◌∙◌}
use Rattle.droid_frame.specs.declared.frame.Frame.{Frame}
use Rattle.droid_frame.specs.declared.refusal.Refusal.TheVariants.{Malformed, NumberReused}
use Rattle.droid_frame.specs.declared.reply.Reply.TheVariants.{Refused}
use Rattle.droid_frame.specs.declared.request.Request.{Request}
use Rattle.droid_core_spec.specs.Histories.{Entry, History, command, kept, world_of, is_request_of, Meeting, Nothing, Repeat, Reuse, New, meeting, meeting_under, meeting_asked, verdict_reply, reply_to, answer, history_with, next}
use Rattle.droid_core_spec.specs.Judging.{judge}
use Rattle.droid_core_spec.specs.Setting.{Setting}

-- what follows of whatever it meets follows of what it met
pub answer_by : (setting : Setting) (history : History) (frame : Frame) (met : Meeting) → meeting setting history frame ≡ met → answer setting history frame ≡ reply_to met
unfolding answer
answer_by setting history frame met is = ap reply_to is

pub next_by : (setting : Setting) (history : History) (frame : Frame) (met : Meeting) → meeting setting history frame ≡ met → next setting history frame ≡ history_with history frame met
unfolding next
next_by setting history frame met is = ap (history_with history frame) is

-- ---- nothing asked

pub meets_nothing : (setting : Setting) (history : History) (frame : Frame) → command frame ≡ None → meeting setting history frame ≡ Nothing
unfolding meeting
meets_nothing setting history frame asked = ap (meeting_asked setting history frame) asked

pub answer_malformed : (setting : Setting) (history : History) (frame : Frame) → command frame ≡ None → answer setting history frame ≡ Refused Malformed
answer_malformed setting history frame asked = answer_by setting history frame Nothing (meets_nothing setting history frame asked)

pub next_malformed : (setting : Setting) (history : History) (frame : Frame) → command frame ≡ None → next setting history frame ≡ history
next_malformed setting history frame asked = next_by setting history frame Nothing (meets_nothing setting history frame asked)

-- ---- something asked, under a number that is kept or new

module _ (setting : Setting) (history : History) (frame : Frame) (request : Request) (asked : command frame ≡ Some request) where
  meets_under : meeting setting history frame ≡ meeting_under setting history (kept history frame.client frame.number) frame request
  unfolding meeting
  meets_under = ap (meeting_asked setting history frame) asked

  pub meets_kept : (entry : Entry) → kept history frame.client frame.number ≡ Some entry → meeting setting history frame ≡ cond (is_request_of entry frame) (Repeat entry) Reuse
  meets_kept entry there = meets_under ∙ ap (λ (o : Option Entry). meeting_under setting history o frame request) there

  pub meets_new : kept history frame.client frame.number ≡ None → meeting setting history frame ≡ New (judge setting (world_of setting history) frame.version request)
  meets_new is_new = meets_under ∙ ap (λ (o : Option Entry). meeting_under setting history o frame request) is_new

  reply_either : (same : Bool) (entry : Entry) → reply_to (cond same (Repeat entry) Reuse) ≡ cond same entry.reply (Refused NumberReused)
  reply_either true entry = refl
  reply_either false entry = refl

  history_either : (same : Bool) (entry : Entry) → history_with history frame (cond same (Repeat entry) Reuse) ≡ history
  history_either true entry = refl
  history_either false entry = refl

  pub answer_kept : (entry : Entry) → kept history frame.client frame.number ≡ Some entry → answer setting history frame ≡ cond (is_request_of entry frame) entry.reply (Refused NumberReused)
  answer_kept entry there = answer_by setting history frame (cond (is_request_of entry frame) (Repeat entry) Reuse) (meets_kept entry there) ∙ reply_either (is_request_of entry frame) entry

  pub next_kept : (entry : Entry) → kept history frame.client frame.number ≡ Some entry → next setting history frame ≡ history
  next_kept entry there = next_by setting history frame (cond (is_request_of entry frame) (Repeat entry) Reuse) (meets_kept entry there) ∙ history_either (is_request_of entry frame) entry

  pub answer_new : kept history frame.client frame.number ≡ None → answer setting history frame ≡ verdict_reply (judge setting (world_of setting history) frame.version request)
  answer_new is_new = answer_by setting history frame (New (judge setting (world_of setting history) frame.version request)) (meets_new is_new)

  pub next_new : kept history frame.client frame.number ≡ None → next setting history frame ≡ history_with history frame (New (judge setting (world_of setting history) frame.version request))
  next_new is_new = next_by setting history frame (New (judge setting (world_of setting history) frame.version request)) (meets_new is_new)

-- ---- whatever it meets

module _ (setting : Setting) (history : History) (frame : Frame) (P : Meeting → Type 0)
    (nothing : P Nothing)
    (repeat : (entry : Entry) → kept history frame.client frame.number ≡ Some entry → P (Repeat entry))
    (reuse : P Reuse)
    (new : (request : Request) → command frame ≡ Some request → kept history frame.client frame.number ≡ None → P (New (judge setting (world_of setting history) frame.version request))) where
  by_mark : (same : Bool) (entry : Entry) → kept history frame.client frame.number ≡ Some entry → P (cond same (Repeat entry) Reuse)
  by_mark true entry there = repeat entry there
  by_mark false entry there = reuse

  by_entry : (request : Request) (o : Option Entry) → command frame ≡ Some request → kept history frame.client frame.number ≡ o → P (meeting_under setting history o frame request)
  by_entry request None asked is_new = new request asked is_new
  by_entry request (Some entry) asked there = by_mark (is_request_of entry frame) entry there

  by_command : (o : Option Request) → command frame ≡ o → P (meeting_asked setting history frame o)
  by_command None asked = nothing
  by_command (Some request) asked = by_entry request (kept history frame.client frame.number) asked refl

  pub whatever_meets : P (meeting setting history frame)
  unfolding meeting
  whatever_meets = by_command (command frame) refl
