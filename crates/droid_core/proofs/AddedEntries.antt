-- Which requests add an entry to the history: new commands that are accepted, and nothing else.
use Rattle.std.proofs.Common.{◌≡◌, Bool, true, false, cond, Some, None, refl, sym, ap, subst, ◌∙◌}
use Rattle.std.specs.Prelude.{MatchBool, IsSome, not, ◌&&◌}
use Rattle.std.proofs.lemmas.Bool.{and_from, and_left, and_right}
use Rattle.droid_frame.specs.declared.frame.Frame.{Frame}
use Rattle.droid_frame.specs.declared.reply.Reply.{Reply}
use Rattle.droid_frame.specs.declared.reply.Reply.TheVariants.{Refused}
use Rattle.droid_frame.specs.declared.request.Request.{Request}
use Rattle.droid_core_spec.specs.Histories.{Entry, History, Handles, Repeat, Reuse, New, answer, command, is_request_of, kept, meeting, next, verdict_reply, world_of}
use Rattle.droid_core_spec.specs.Judging.{Verdict, Accepted, Answered, Refuses, judge}
use Rattle.droid_core_spec.specs.MemoryFaults.{is_out_of_memory}
use Rattle.droid_core_spec.specs.Setting.{Setting}
use Rattle.droid_core_spec.specs.Verdicts.{is_command, MayCome}
use Rattle.droid_frame.specs.Replies.{is_refused}
use Rattle.droid_core_spec.specs.World.{World}
use Rattle.droid_core_spec.proofs.Judged.{judged}
use Rattle.droid_core_spec.proofs.Meetings.{answer_new, meets_kept, meets_new, meets_nothing}
use Rattle.droid_core.specs.Changes.{stamp_of}
use Rattle.droid_core.specs.declared.holdings.Holdings.{Holdings}
use Rattle.droid_core.specs.declared.stamps.Stamp.{Stamp}
use Rattle.droid_store.specs.declared.rows.Entry as rows
use Rattle.droid_store.specs.Rows.{reply_for}
use Rattle.droid_core.specs.Handled.{adds, is_added}
use Rattle.droid_core.specs.Standing.{Stand}
use Rattle.droid_core.proofs.KeptReplies.{entry_kept, none_kept}

-- ---- what adds nothing

nothing_added : (setting : Setting) (history : History) (frame : Frame) (reply : Reply) → adds (meeting setting history frame) ≡ false → false ≡ is_added setting history frame reply
nothing_added setting history frame reply isnt = sym (and_right (not (is_out_of_memory reply)) (adds (meeting setting history frame)) isnt)

pub malformed_adds : (setting : Setting) (history : History) (frame : Frame) (reply : Reply) → command frame ≡ None → false ≡ is_added setting history frame reply
malformed_adds setting history frame reply malformed = nothing_added setting history frame reply (ap adds (meets_nothing setting history frame malformed))

either_adds : (same : Bool) (entry : Entry) → adds (cond same (Repeat entry) Reuse) ≡ false
either_adds true entry = refl
either_adds false entry = refl

kept_adds : (setting : Setting) (history : History) (frame : Frame) (request : Request) (entry : Entry) (reply : Reply) → command frame ≡ Some request → kept history frame.client frame.number ≡ Some entry
    → false ≡ is_added setting history frame reply
kept_adds setting history frame request entry reply asked there =
    nothing_added setting history frame reply (ap adds (meets_kept setting history frame request asked entry there) ∙ either_adds (is_request_of entry frame) entry)

-- a request under whose number a row is kept
pub repeated_adds : (setting : Setting) (holdings : Holdings) (history : History) (frame : Frame) (request : Request) (stamp : Stamp) (row : rows.Entry) (reply : Reply) → stamp ≡ stamp_of frame → command frame ≡ Some request
    → reply_for stamp.client stamp.number holdings.store ≡ Some row → Stand setting holdings history → false ≡ is_added setting history frame reply
repeated_adds setting holdings history frame request stamp row reply is asked found stands =
    let there = entry_kept history holdings.store frame.client frame.number row stands.replies (subst (λ (s : Stamp). reply_for s.client s.number holdings.store ≡ Some row) is found) in
    kept_adds setting history frame request there.0 reply asked there.1

-- ---- a request under a new number

-- a command is one that is not refused
abbrev is_accepted : Request → Reply → Bool
is_accepted request reply = is_command request && not (is_refused reply)

by_verdict : (world : World) (request : Request) (reply : Reply) (verdict : Verdict) → MayCome world request verdict → reply ≡ verdict_reply verdict → is_accepted request reply ≡ adds (New verdict)
by_verdict world request reply (Accepted its after) may is = and_from (is_command request) (not (is_refused reply)) may.command (ap not (ap is_refused is ∙ may.no_refusal))
by_verdict world request reply (Answered its) may is = and_left (is_command request) (not (is_refused reply)) may.query
by_verdict world request reply (Refuses refusal) may is = and_right (is_command request) (not (is_refused reply)) (ap (λ (r : Reply). not (is_refused r)) is)

memory_refused : (reply : Reply) → is_out_of_memory reply ≡ true → is_refused reply ≡ true
memory_refused (Refused refusal) is = refl
memory_refused _ is = absurd cc

by_memory_fault : (b : Bool) (P Q : Type 0) (setting : Setting) (history : History) (frame : Frame) (request : Request) (reply : Reply) → is_out_of_memory reply ≡ b → command frame ≡ Some request
    → kept history frame.client frame.number ≡ None → MatchBool b P ((reply ≡ answer setting history frame) × Q) → is_accepted request reply ≡ (not b && adds (meeting setting history frame))
by_memory_fault true P Q setting history frame request reply failure asked is_new handled = and_right (is_command request) (not (is_refused reply)) (ap not (memory_refused reply failure))
by_memory_fault false P Q setting history frame request reply failure asked is_new handled =
    by_verdict (world_of setting history) request reply (judge setting (world_of setting history) frame.version request) (judged setting (world_of setting history) frame.version request)
    (handled.0 ∙ answer_new setting history frame request asked is_new)
    ∙ sym (ap adds (meets_new setting history frame request asked is_new))

pub new_adds : (setting : Setting) (holdings : Holdings) (history : History) (frame : Frame) (request : Request) (stamp : Stamp) (reply : Reply) (commands is_new : Bool) (Stands : History → Type 0) → stamp ≡ stamp_of frame
    → command frame ≡ Some request → commands ≡ is_command request → is_new ≡ (commands && not (is_refused reply)) → reply_for stamp.client stamp.number holdings.store ≡ None → Stand setting holdings history
    → Handles setting history frame reply Stands → is_new ≡ is_added setting history frame reply
new_adds setting holdings history frame request stamp reply commands is_new Stands is asked commands_is accepted absent stands handled =
    let none = none_kept history holdings.store frame.client frame.number stands.replies (subst (λ (s : Stamp). reply_for s.client s.number holdings.store ≡ None) is absent) in
    accepted ∙ (ap (λ (b : Bool). b && not (is_refused reply)) commands_is ∙ by_memory_fault (is_out_of_memory reply) (IsSome (command frame) × Stands history) (Stands (next setting history frame)) setting history frame request reply refl asked none handled)
