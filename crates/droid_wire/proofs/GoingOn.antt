-- A service goes on from a history, by one request or by what two calls have made.
use Rattle.std.proofs.Common.{◌≡◌, ℕ, ◌+◌, ◌≤◌, Bool, true, false, cond, not, List, [], ◌∷◌, ◌++◌, length, refl, sym, ap, subst, ◌∙◌, arith, length-append}
use Rattle.droid_frame.specs.declared.frame.Frame.{Frame}
use Rattle.droid_frame.specs.declared.reply.Reply.{Reply}
use Rattle.droid_frame.specs.Replies.{HasReplySpelling}
use Rattle.droid_core.specs.Running.{AreSpelled, NoMemoryFaultOfMalformed, Runs, other_replies, without_memory_faults}
use Rattle.droid_core.specs.Standing.{StandsFor}
use Rattle.droid_core.specs.declared.service.Service.{Service}
use Rattle.droid_core_spec.specs.Histories.{History, Handles, answer, answers, history_from, next}
use Rattle.droid_core_spec.specs.Setting.{Setting}
use Rattle.droid_core_spec.specs.MemoryFaults.{is_out_of_memory}
use Rattle.droid_core.proofs.Running.{Runs-none, Runs-push}
use Rattle.droid_wire.specs.Serving.{GoesOnFrom}

-- ---- a run after a run

frames_either : (b : Bool) (frame : Frame) (left right more : List Frame) → left ≡ right ++ more → cond b left (frame ∷ left) ≡ cond b right (frame ∷ right) ++ more
frames_either true frame left right more e = e
frames_either false frame left right more e = ap (λ (rest : List Frame). frame ∷ rest) e

without_memory_faults-append : (xs ys : List Frame) (first second : List Reply) → length first ≡ length xs → without_memory_faults (xs ++ ys) (first ++ second) ≡ without_memory_faults xs first ++ without_memory_faults ys second
without_memory_faults-append [] ys [] second e = refl
without_memory_faults-append [] ys (r ∷ first) second e = absurd (omega arith)
without_memory_faults-append (x ∷ xs) ys [] second e = absurd (omega arith)
without_memory_faults-append (x ∷ xs) ys (r ∷ first) second e =
    frames_either (is_out_of_memory r) x (without_memory_faults (xs ++ ys) (first ++ second)) (without_memory_faults xs first) (without_memory_faults ys second) (without_memory_faults-append xs ys first second (omega arith))

replies_either : (b : Bool) (reply : Reply) (left right more : List Reply) → left ≡ right ++ more → cond b (reply ∷ left) left ≡ cond b (reply ∷ right) right ++ more
replies_either true reply left right more e = ap (λ (rest : List Reply). reply ∷ rest) e
replies_either false reply left right more e = e

other_replies-append : (first second : List Reply) → other_replies (first ++ second) ≡ other_replies first ++ other_replies second
other_replies-append [] second = refl
other_replies-append (r ∷ first) second = replies_either (not (is_out_of_memory r)) r (other_replies (first ++ second)) (other_replies first) (other_replies second) (other_replies-append first second)

memory_faults-append : (xs ys : List Frame) (first second : List Reply) → length first ≡ length xs → NoMemoryFaultOfMalformed xs first → NoMemoryFaultOfMalformed ys second → NoMemoryFaultOfMalformed (xs ++ ys) (first ++ second)
memory_faults-append [] ys [] second e p q = q
memory_faults-append [] ys (r ∷ first) second e p q = absurd (omega arith)
memory_faults-append (x ∷ xs) ys [] second e p q = absurd (omega arith)
memory_faults-append (x ∷ xs) ys (r ∷ first) second e p q = (p.0, memory_faults-append xs ys first second (omega arith) p.1 q)

spelled-append : (xs ys : List Frame) (first second : List Reply) → length first ≡ length xs → AreSpelled xs first → AreSpelled ys second → AreSpelled (xs ++ ys) (first ++ second)
spelled-append [] ys [] second e p q = q
spelled-append [] ys (r ∷ first) second e p q = absurd (omega arith)
spelled-append (x ∷ xs) ys [] second e p q = absurd (omega arith)
spelled-append (x ∷ xs) ys (r ∷ first) second e p q = (p.0, spelled-append xs ys first second (omega arith) p.1 q)

history_from-append : (setting : Setting) (history : History) (xs ys : List Frame) → history_from setting history (xs ++ ys) ≡ history_from setting (history_from setting history xs) ys
history_from-append setting history [] ys = refl
history_from-append setting history (x ∷ xs) ys = history_from-append setting (next setting history x) xs ys

answers-append : (setting : Setting) (history : History) (xs ys : List Frame) → answers setting history (xs ++ ys) ≡ answers setting history xs ++ answers setting (history_from setting history xs) ys
answers-append setting history [] ys = refl
answers-append setting history (x ∷ xs) ys = ap (λ (rest : List Reply). answer setting history x ∷ rest) (answers-append setting (next setting history x) xs ys)

runs_on : (setting : Setting) (history : History) (xs ys : List Frame) (first second : List Reply) (mid after : Service) → Runs setting history xs first mid
    → Runs setting (history_from setting history (without_memory_faults xs first)) ys second after → Runs setting history (xs ++ ys) (first ++ second) after
runs_on setting history xs ys first second mid after one two =
    let kept = without_memory_faults-append xs ys first second one.count in
    let here = history_from setting history (without_memory_faults xs first) in
    let joined : other_replies first ++ other_replies second ≡ answers setting history (without_memory_faults xs first) ++ answers setting here (without_memory_faults ys second) =
    ap (λ (rs : List Reply). rs ++ other_replies second) one.answered ∙ ap (λ (rs : List Reply). answers setting history (without_memory_faults xs first) ++ rs) two.answered in
    record {
      count = omega (arith, one.count, two.count, length-append first second, length-append xs ys);
      spelled = spelled-append xs ys first second one.count one.spelled two.spelled;
      memory_faults = memory_faults-append xs ys first second one.count one.memory_faults two.memory_faults;
      answered = other_replies-append first second ∙ (joined ∙ (sym (answers-append setting history (without_memory_faults xs first) (without_memory_faults ys second)) ∙ ap (answers setting history) (sym kept)));
      stands = subst (λ (fs : List Frame). StandsFor setting after (history_from setting history fs)) (sym kept)
          (subst (StandsFor setting after) (sym (history_from-append setting history (without_memory_faults xs first) (without_memory_faults ys second))) two.stands);
    }

-- ---- the service goes on

-- it stays where it is
pub goes_nowhere : (setting : Setting) (history : History) (most : ℕ) (service : Service) → StandsFor setting service history → GoesOnFrom setting history most service
goes_nowhere setting history most service stands = record { requests = []; replies = []; within = omega arith; runs = Runs-none setting history service stands }

-- a request was handled
pub goes_on : (setting : Setting) (history : History) (before after : Service) (frame : Frame) (reply : Reply) → StandsFor setting before history → Handles setting history frame reply (StandsFor setting after)
    → HasReplySpelling frame.version reply → GoesOnFrom setting history 1 after
goes_on setting history before after frame reply stands handles spelled = record {
  requests = frame ∷ [];
  replies = reply ∷ [];
  within = omega arith;
  runs = Runs-push setting history [] [] before after frame reply (Runs-none setting history before stands) handles spelled;
}

-- and then further
pub goes_further : (setting : Setting) (history : History) (first second most : ℕ) (mid after : Service) → first + second ≤ most → GoesOnFrom setting history first mid
    → ((here : History) → StandsFor setting mid here → GoesOnFrom setting here second after) → GoesOnFrom setting history most after
goes_further setting history first second most mid after enough one next =
    let here = history_from setting history (without_memory_faults one.requests one.replies) in
    let two = next here one.runs.stands in
    record {
      requests = one.requests ++ two.requests;
      replies = one.replies ++ two.replies;
      within = omega (arith, enough, one.within, two.within, length-append one.requests two.requests);
      runs = runs_on setting history one.requests two.requests one.replies two.replies mid after one.runs two.runs;
    }

-- by no more than these
pub goes_within : (setting : Setting) (history : History) (count most : ℕ) (service : Service) → count ≤ most → GoesOnFrom setting history count service → GoesOnFrom setting history most service
goes_within setting history count most service enough on =
    record { requests = on.requests; replies = on.replies; within = omega (arith, enough, on.within); runs = on.runs }
