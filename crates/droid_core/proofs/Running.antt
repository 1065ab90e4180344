-- A run goes on by one request.
use Rattle.std.proofs.Common.{◌≡◌, Bool, true, false, cond, not, List, [], ◌∷◌, ◌++◌, length, refl, sym, ap, ◌∙◌, arith, append-nil}
use Rattle.std.specs.Prelude.{MatchBool, IsSome, ⊤}
use Rattle.droid_frame.specs.declared.frame.Frame.{Frame}
use Rattle.droid_frame.specs.declared.reply.Reply.{Reply}
use Rattle.droid_frame.specs.Replies.{HasReplySpelling}
use Rattle.std.proofs.lemmas.List.{length-append}
use Rattle.droid_core.specs.declared.service.Service.{Service}
use Rattle.droid_core_spec.specs.Setting.{Setting}
use Rattle.droid_core_spec.specs.Histories.{History, command, answer, next, answers, history_from, Handles}
use Rattle.droid_core.specs.Running.{AreSpelled, without_memory_faults, other_replies, NoMemoryFaultOfMalformed, Runs}
use Rattle.droid_core.specs.Standing.{StandsFor}
use Rattle.droid_core_spec.specs.MemoryFaults.{is_out_of_memory}

-- ---- along a list and one request more

history_from-push : (setting : Setting) (history : History) (frames : List Frame) (frame : Frame) → history_from setting history (frames ++ frame ∷ []) ≡ next setting (history_from setting history frames) frame
history_from-push setting history [] frame = refl
history_from-push setting history (first ∷ frames) frame = history_from-push setting (next setting history first) frames frame

answers-push : (setting : Setting) (history : History) (frames : List Frame) (frame : Frame) → answers setting history (frames ++ frame ∷ []) ≡ answers setting history frames ++ answer setting (history_from setting history frames) frame ∷ []
answers-push setting history [] frame = refl
answers-push setting history (first ∷ frames) frame = ap (λ (rest : List Reply). answer setting history first ∷ rest) (answers-push setting (next setting history first) frames frame)

-- what one pair more adds
abbrev more_frames : Bool → Frame → List Frame
more_frames true frame = []
more_frames false frame = frame ∷ []

abbrev more_replies : Bool → Reply → List Reply
more_replies true reply = []
more_replies false reply = reply ∷ []

one_frame : (b : Bool) (frame : Frame) → cond b [] (frame ∷ []) ≡ more_frames b frame
one_frame true frame = refl
one_frame false frame = refl

frames_either : (b : Bool) (frame : Frame) (left right more : List Frame) → left ≡ right ++ more → cond b left (frame ∷ left) ≡ cond b right (frame ∷ right) ++ more
frames_either true frame left right more e = e
frames_either false frame left right more e = ap (λ (rest : List Frame). frame ∷ rest) e

without_memory_faults-push : (frames : List Frame) (replies : List Reply) (frame : Frame) (reply : Reply) → length replies ≡ length frames → without_memory_faults (frames ++ frame ∷ []) (replies ++ reply ∷ []) ≡ without_memory_faults frames replies ++ more_frames (is_out_of_memory reply) frame
without_memory_faults-push [] [] frame reply e = one_frame (is_out_of_memory reply) frame
without_memory_faults-push [] (r ∷ replies) frame reply e = absurd (omega arith)
without_memory_faults-push (f ∷ frames) [] frame reply e = absurd (omega arith)
without_memory_faults-push (f ∷ frames) (r ∷ replies) frame reply e =
    frames_either (is_out_of_memory r) f (without_memory_faults (frames ++ frame ∷ []) (replies ++ reply ∷ [])) (without_memory_faults frames replies) (more_frames (is_out_of_memory reply) frame) (without_memory_faults-push frames replies frame reply (omega arith))

one_reply : (b : Bool) (reply : Reply) → cond (not b) (reply ∷ []) [] ≡ more_replies b reply
one_reply true reply = refl
one_reply false reply = refl

replies_either : (b : Bool) (reply : Reply) (left right more : List Reply) → left ≡ right ++ more → cond b (reply ∷ left) left ≡ cond b (reply ∷ right) right ++ more
replies_either true reply left right more e = ap (λ (rest : List Reply). reply ∷ rest) e
replies_either false reply left right more e = e

other_replies-push : (replies : List Reply) (reply : Reply) → other_replies (replies ++ reply ∷ []) ≡ other_replies replies ++ more_replies (is_out_of_memory reply) reply
other_replies-push [] reply = one_reply (is_out_of_memory reply) reply
other_replies-push (r ∷ replies) reply =
    replies_either (not (is_out_of_memory r)) r (other_replies (replies ++ reply ∷ [])) (other_replies replies) (more_replies (is_out_of_memory reply) reply) (other_replies-push replies reply)

memory_faults-push : (frames : List Frame) (replies : List Reply) (frame : Frame) (reply : Reply) → NoMemoryFaultOfMalformed frames replies → MatchBool (is_out_of_memory reply) (IsSome (command frame)) ⊤ → length replies ≡ length frames → NoMemoryFaultOfMalformed (frames ++ frame ∷ []) (replies ++ reply ∷ [])
memory_faults-push [] [] frame reply memory_faults last e = (last, tt)
memory_faults-push [] (r ∷ replies) frame reply memory_faults last e = absurd (omega arith)
memory_faults-push (f ∷ frames) [] frame reply memory_faults last e = absurd (omega arith)
memory_faults-push (f ∷ frames) (r ∷ replies) frame reply memory_faults last e = (memory_faults.0, memory_faults-push frames replies frame reply memory_faults.1 last (omega arith))

spelled-push : (frames : List Frame) (replies : List Reply) (frame : Frame) (reply : Reply) → AreSpelled frames replies → HasReplySpelling frame.version reply → length replies ≡ length frames → AreSpelled (frames ++ frame ∷ []) (replies ++ reply ∷ [])
spelled-push [] [] frame reply all last e = (last, tt)
spelled-push [] (r ∷ replies) frame reply all last e = absurd (omega arith)
spelled-push (f ∷ frames) [] frame reply all last e = absurd (omega arith)
spelled-push (f ∷ frames) (r ∷ replies) frame reply all last e = (all.0, spelled-push frames replies frame reply all.1 last (omega arith))

-- ---- the step

last_memory_fault : (b : Bool) (P Q S T : Type 0) → MatchBool b (P × S) (Q × T) → MatchBool b P ⊤
last_memory_fault true P Q S T handled = handled.0
last_memory_fault false P Q S T handled = tt

goes_on : (b : Bool) (setting : Setting) (history : History) (frames : List Frame) (replies : List Reply) (frame : Frame) (reply : Reply) (after : Service)
    → other_replies replies ≡ answers setting history frames
    → MatchBool b (IsSome (command frame) × StandsFor setting after (history_from setting history frames)) ((reply ≡ answer setting (history_from setting history frames) frame) × StandsFor setting after (next setting (history_from setting history frames) frame))
    → (other_replies replies ++ more_replies b reply ≡ answers setting history (frames ++ more_frames b frame)) × StandsFor setting after (history_from setting history (frames ++ more_frames b frame))
goes_on true setting history frames replies frame reply after answered handled =
    (append-nil (other_replies replies) ∙ (answered ∙ ap (answers setting history) (sym (append-nil frames))), rw (append-nil frames) handled.1)
goes_on false setting history frames replies frame reply after answered handled =
    (rw (answered, handled.0) (sym (answers-push setting history frames frame)), rw (history_from-push setting history frames frame) handled.1)

pub Runs-push : (setting : Setting) (history : History) (frames : List Frame) (replies : List Reply) (before after : Service) (frame : Frame) (reply : Reply) → Runs setting history frames replies before
    → Handles setting (history_from setting history (without_memory_faults frames replies)) frame reply (StandsFor setting after) → HasReplySpelling frame.version reply → Runs setting history (frames ++ frame ∷ []) (replies ++ reply ∷ []) after
Runs-push setting history frames replies before after frame reply runs handled spelled =
    let more = goes_on (is_out_of_memory reply) setting history (without_memory_faults frames replies) replies frame reply after runs.answered handled in
    let kept = without_memory_faults-push frames replies frame reply runs.count in
    record {
      count = omega (arith, runs.count, length-append replies (reply ∷ []), length-append frames (frame ∷ []));
      spelled = spelled-push frames replies frame reply runs.spelled spelled runs.count;
      memory_faults = memory_faults-push frames replies frame reply runs.memory_faults (last_memory_fault (is_out_of_memory reply) _ _ _ _ handled) runs.count;
      answered = other_replies-push replies reply ∙ (more.0 ∙ ap (answers setting history) (sym kept));
      stands = rw kept more.1;
    }

pub Runs-none : (setting : Setting) (history : History) (service : Service) → StandsFor setting service history → Runs setting history [] [] service
Runs-none setting history service stands = record { count = refl; spelled = tt; memory_faults = tt; answered = refl; stands = stands }
