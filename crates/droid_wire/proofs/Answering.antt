-- Frames that were answered one after another.
use Rattle.std.proofs.Common.{◌≡◌, Bool, true, false, List, [], ◌∷◌, ◌++◌, IsSome, refl, sym, subst, inl, inr}
use Rattle.std.specs.Prelude.{MatchBool}
use Rattle.droid_frame.specs.declared.frame.Frame.{Frame}
use Rattle.droid_frame.specs.declared.reply.Reply.{Reply}
use Rattle.droid_core_spec.specs.Histories.{History, answer, command, next}
use Rattle.droid_core_spec.specs.MemoryFaults.{is_out_of_memory}
use Rattle.droid_core_spec.specs.Setting.{Setting}
use Rattle.droid_wire.specs.Standing.{AnswersIn}
use Rattle.droid_wire.specs.JournalServing.{Answered}

handled_as : (A B : Type 0) (P Q : History → Type 0) (b : Bool) (here there : History) → ((after : History) → P after → Q after) → MatchBool b (A × P here) (B × P there) → MatchBool b (A × Q here) (B × Q there)
handled_as A B P Q true here there more handled = (handled.0, more here handled.1)
handled_as A B P Q false here there more handled = (handled.0, more there handled.1)

-- another claim of the history then
pub answers_as : (setting : Setting) (history : History) (frame : Frame) (reply : Reply) (P Q : History → Type 0) → ((after : History) → P after → Q after) → AnswersIn setting history frame reply P → AnswersIn setting history frame reply Q
answers_as setting history frame reply P Q more (inl handled) =
    inl (handled_as (IsSome (command frame)) (reply ≡ answer setting history frame) P Q (is_out_of_memory reply) history (next setting history frame) more handled)
answers_as setting history frame reply P Q more (inr other) = inr (other.0, more history other.1)

-- the history then, and what is claimed of it
pub record Then (setting : Setting) (history : History) (frame : Frame) (reply : Reply) (P : History → Type 0) : Type 0 where
  pub after : History
  pub answers : AnswersIn setting history frame reply (λ middle. after ≡ middle)
  pub claim : P after

handled_then : (setting : Setting) (history : History) (frame : Frame) (reply : Reply) (P : History → Type 0) (b : Bool) → is_out_of_memory reply ≡ b
    → MatchBool b (IsSome (command frame) × P history) ((reply ≡ answer setting history frame) × P (next setting history frame)) → Then setting history frame reply P
handled_then setting history frame reply P true is handled = record {
  after = history;
  answers = inl (subst (λ (b : Bool). MatchBool b (IsSome (command frame) × (history ≡ history)) ((reply ≡ answer setting history frame) × (history ≡ next setting history frame))) (sym is) (handled.0, refl));
  claim = handled.1;
}
handled_then setting history frame reply P false is handled = record {
  after = next setting history frame;
  answers = inl (subst (λ (b : Bool). MatchBool b (IsSome (command frame) × (next setting history frame ≡ history)) ((reply ≡ answer setting history frame) × (next setting history frame ≡ next setting history frame))) (sym is) (handled.0, refl));
  claim = handled.1;
}

pub answers_then : (setting : Setting) (history : History) (frame : Frame) (reply : Reply) (P : History → Type 0) → AnswersIn setting history frame reply P → Then setting history frame reply P
answers_then setting history frame reply P (inl handled) = handled_then setting history frame reply P (is_out_of_memory reply) refl handled
answers_then setting history frame reply P (inr other) = record { after = history; answers = inr (other.0, refl); claim = other.1 }

-- one frame more
pub answered_more : (setting : Setting) (history all after : History) (so : List (Frame × Reply)) (frame : Frame) (reply : Reply) → Answered setting history so all → AnswersIn setting all frame reply (λ middle. after ≡ middle)
    → Answered setting history (so ++ (frame, reply) ∷ []) after
answered_more setting history all after [] frame reply so_far answers = subst (λ (h : History). AnswersIn setting h frame reply (λ middle. after ≡ middle)) so_far answers
answered_more setting history all after (one ∷ so) frame reply so_far answers =
    answers_as setting history one.0 one.1 (λ middle. Answered setting middle so all) (λ middle. Answered setting middle (so ++ (frame, reply) ∷ []) after)
    (λ middle rest. answered_more setting middle all after so frame reply rest answers) so_far
