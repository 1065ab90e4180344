-- The service answers each command once.
use Rattle.std.proofs.Common.{◌≡◌, ◌≢◌, nat_lt, Bool, true, false, cond, eqb, [], ◌∷◌, ◌++◌, Option, Some, None, refl, sym, ap, subst, ◌∙◌}
use Rattle.std.proofs.lemmas.Bool.{eq-eqb}
use Rattle.std.proofs.lemmas.Slice.Eq.{bytes_eq-Decides}
use Rattle.droid_frame.specs.declared.frame.Frame.{Frame}
use Rattle.droid_frame.specs.declared.refusal.Refusal.{Refusal}
use Rattle.droid_frame.specs.declared.refusal.Refusal.TheVariants as refusals
use Rattle.droid_frame.specs.declared.reply.Reply.{Reply}
use Rattle.droid_frame.specs.declared.reply.Reply.TheVariants.{Refused}
use Rattle.droid_frame.specs.declared.request.Request.{Request}
use Rattle.droid_frame.specs.Bodies.{request_kind}
use Rattle.droid_core_spec.specs.Histories.{Entry, History, kept, command, frame_mark, is_request_of, New, answer, history_with, next, verdict_reply, world_of}
use Rattle.droid_core_spec.specs.Judging.{Verdict, Accepted, Answered, Refuses as RefusesIt, judge}
use Rattle.droid_core_spec.specs.Setting.{Setting}
use Rattle.droid_core_spec.specs.Verdicts.{is_of_judging, MayCome}
use Rattle.droid_core_spec.specs.World.{World}
use Rattle.droid_core_spec.proofs.Judged.{judged}
use Rattle.droid_core_spec.proofs.Meetings.{answer_malformed, next_malformed, answer_kept, next_kept, answer_new, next_new}
use Rattle.droid_wire.specs.Desks.{Answering, Again, Accepts, Refuses, Queries, IsDesk, IsItsOwn, IsAccepted, desk_of, is_refused}
use Rattle.droid_wire.proofs.RequestKinds.{kind_of_request}

asked_kind : (frame : Frame) (request : Request) → command frame ≡ Some request → request_kind request ≡ frame.kind
unfolding command
asked_kind frame request asked = kind_of_request frame request asked

not_reused : refusals.Malformed ≢ refusals.NumberReused
not_reused same = cc

malformed : (setting : Setting) (history : History) (frame : Frame) → command frame ≡ None → Answering (desk_of setting) history frame
malformed setting history frame asked =
    Refuses refusals.Malformed not_reused (answer_malformed setting history frame asked) (next_malformed setting history frame asked)

same_request : (entry : Entry) (frame : Frame) → entry.frame ≡ frame → entry.mark ≡ frame_mark frame → is_request_of entry frame ≡ true
same_request entry frame own marked =
    let version : eqb entry.frame.version frame.version ≡ true = eq-eqb entry.frame.version frame.version (ap (λ (f : Frame). f.version) own) in
    rw version ((bytes_eq-Decides entry.mark (frame_mark frame)).1 marked)

again : (setting : Setting) (history : History) (frame : Frame) (request : Request) (entry : Entry) → command frame ≡ Some request → kept history frame.client frame.number ≡ Some entry
    → IsAccepted (desk_of setting) entry → entry.frame ≡ frame → Answering (desk_of setting) history frame
again setting history frame request entry asked there sound own =
    let marked : entry.mark ≡ frame_mark frame = sound.marked ∙ ap frame_mark own in
    Again entry there
    (answer_kept setting history frame request asked entry there
    ∙ ap (λ (b : Bool). cond b entry.reply (Refused refusals.NumberReused)) (same_request entry frame own marked))
    (next_kept setting history frame request asked entry there)

-- a refusal of judging is none for a number used again
other : (refusal : Refusal) → is_of_judging refusal ≡ true → refusal ≢ refusals.NumberReused
other refusal is same = let never : is_of_judging refusal ≡ false = ap is_of_judging same in cc

of_kind : (frame : Frame) (request : Request) (b : Bool) → request_kind request ≡ frame.kind → nat_lt (request_kind request) 7 ≡ b → nat_lt frame.kind 7 ≡ b
of_kind frame request b kind is = subst (λ n. nat_lt n 7 ≡ b) kind is

by_verdict : (setting : Setting) (history : History) (frame : Frame) (world : World) (request : Request) (verdict : Verdict) → kept history frame.client frame.number ≡ None → request_kind request ≡ frame.kind
    → MayCome world request verdict → answer setting history frame ≡ verdict_reply verdict → next setting history frame ≡ history_with history frame (New verdict) → Answering (desk_of setting) history frame
by_verdict setting history frame world request (Accepted reply after) is_new kind may answered goes =
    Accepts is_new (of_kind frame request true kind may.command) (ap is_refused answered ∙ may.no_refusal)
    (goes ∙ ap (λ (reply : Reply). history ++ record { frame = frame; mark = frame_mark frame; reply = reply } ∷ []) (sym answered))
by_verdict setting history frame world request (Answered reply) is_new kind may answered goes =
    Queries (of_kind frame request false kind may.query) (ap is_refused answered ∙ may.no_refusal) goes
by_verdict setting history frame world request (RefusesIt refusal) is_new kind may answered goes = Refuses refusal (other refusal may) answered goes

anew : (setting : Setting) (history : History) (frame : Frame) (request : Request) → command frame ≡ Some request → kept history frame.client frame.number ≡ None → Answering (desk_of setting) history frame
anew setting history frame request asked is_new =
    by_verdict setting history frame (world_of setting history) request (judge setting (world_of setting history) frame.version request) is_new (asked_kind frame request asked)
    (judged setting (world_of setting history) frame.version request)
    (answer_new setting history frame request asked is_new)
    (next_new setting history frame request asked is_new)

by_kept : (setting : Setting) (history : History) (frame : Frame) (request : Request) (o : Option Entry) → kept history frame.client frame.number ≡ o → command frame ≡ Some request → IsItsOwn (desk_of setting) history frame
    → Answering (desk_of setting) history frame
by_kept setting history frame request None is asked own = anew setting history frame request asked is
by_kept setting history frame request (Some entry) is asked own =
    let mine = own entry is in
    again setting history frame request entry asked is mine.0 mine.1

by_asked : (setting : Setting) (history : History) (frame : Frame) (asked : Option Request) → command frame ≡ asked → IsItsOwn (desk_of setting) history frame → Answering (desk_of setting) history frame
by_asked setting history frame None is own = malformed setting history frame is
by_asked setting history frame (Some request) is own = by_kept setting history frame request (kept history frame.client frame.number) refl is own

pub each_once : (setting : Setting) → IsDesk (desk_of setting)
each_once setting = record { comes = λ history frame own. by_asked setting history frame (command frame) refl own }
