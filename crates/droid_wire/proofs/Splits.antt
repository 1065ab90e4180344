-- Steps in two parts, and one step more.
use Rattle.std.proofs.Common.{◌≡◌, ℕ, true, false, List, [], ◌∷◌, ◌++◌, refl, sym, ap, subst, ◌∙◌, append_assoc, inl, inr}
use Rattle.std.proofs.lemmas.List.{append-nil}
use Rattle.droid_frame.specs.declared.frame.Frame.{Frame}
use Rattle.droid_frame.specs.declared.reply.Reply.{Reply}
use Rattle.droid_turns.specs.Chains.{GoesOver}
use Rattle.droid_turns.specs.Events.{Event}
use Rattle.droid_turns.specs.Steps.{AtEach, EachSettled, FailedToSettle, Handles, Happens, SettledSo, Settles, Step, all_handled, handled_by}

-- ---- chains

pub record Halves {S A : Type 0} (step : S → A → S → Type 0) (first : S) (items more : List A) (last : S) : Type 0 where
  pub at : S
  pub so_far : GoesOver step first items at
  pub further : GoesOver step at more last

pub halves : {S A : Type 0} (step : S → A → S → Type 0) (first last : S) (items more : List A) → GoesOver step first (items ++ more) last → Halves step first items more last
halves {S} {A} step first last [] more over = record { at = first; so_far = refl; further = over }
halves {S} {A} step first last (item ∷ items) more over =
    let rest = halves step over.0 last items more over.2 in
    record { at = rest.at; so_far = (over.0, over.1, rest.so_far); further = rest.further }

-- ---- each step

pub each_front : (P : List Step → Step → Type 0) (before steps more : List Step) → AtEach P before (steps ++ more) → AtEach P before steps
each_front P before [] more each = tt
each_front P before (step ∷ steps) more each = (each.0, each_front P (before ++ step ∷ []) steps more each.1)

pub each_one : (P : List Step → Step → Type 0) (before steps : List Step) (step : Step) → AtEach P before steps → P (before ++ steps) step → AtEach P before (steps ++ step ∷ [])
each_one P before [] step each now = (subst (λ (l : List Step). P l step) (append-nil before) now, tt)
each_one P before (one ∷ steps) step each now = (each.0, each_one P (before ++ one ∷ []) steps step each.1 (subst (λ (l : List Step). P l step) (sym (append_assoc before (one ∷ []) steps)) now))

pub each_as : (P Q : List Step → Step → Type 0) (before steps : List Step) → ((early : List Step) (step : Step) → P early step → Q early step) → AtEach P before steps → AtEach Q before steps
each_as P Q before [] more each = tt
each_as P Q before (step ∷ steps) more each = (more before step each.0, each_as P Q (before ++ step ∷ []) steps more each.1)

-- ---- frames

pub handled_one : (steps : List Step) (step : Step) → all_handled (steps ++ step ∷ []) ≡ all_handled steps ++ handled_by step
handled_one [] step = append-nil (handled_by step)
handled_one (one ∷ steps) step = ap (λ (l : List (Frame × Reply)). handled_by one ++ l) (handled_one steps step) ∙ sym (append_assoc (handled_by one) (all_handled steps) (handled_by step))

pub handled_none : (steps : List Step) (step : Step) → handled_by step ≡ [] → all_handled (steps ++ step ∷ []) ≡ all_handled steps
handled_none steps step none = handled_one steps step ∙ (ap (λ (l : List (Frame × Reply)). all_handled steps ++ l) none ∙ append-nil (all_handled steps))

-- ---- settlings

pub failed_here : (steps : List Step) → FailedToSettle (steps ++ Settles false ∷ [])
failed_here [] = inl refl
failed_here (step ∷ steps) = inr (failed_here steps)

pub failed_before : (steps : List Step) (step : Step) → FailedToSettle steps → FailedToSettle (steps ++ step ∷ [])
failed_before [] step there = absurd there
failed_before (one ∷ steps) step (inl here) = inl here
failed_before (one ∷ steps) step (inr later) = inr (failed_before steps step later)

abbrev IsNoEvent : Step → Type 0
IsNoEvent (Happens event) = ⊥
IsNoEvent _ = Unit {0}

settled_before : (steps : List Step) (event : Event) → SettledSo true (steps ++ Happens event ∷ []) → SettledSo true steps
settled_before [] event (inl here) = absurd (subst IsNoEvent (sym here) tt)
settled_before [] event (inr none) = absurd none
settled_before (step ∷ steps) event (inl here) = inl here
settled_before (step ∷ steps) event (inr later) = inr (settled_before steps event later)

-- an event settles nothing
pub each_before : (steps : List Step) (event : Event) → EachSettled (steps ++ Happens event ∷ []) → EachSettled steps
each_before [] event each = tt
each_before (Happens other ∷ steps) event each = each_before steps event each
each_before (Handles id frame reply ∷ steps) event each = (settled_before steps event each.0, each_before steps event each.1)
each_before (Settles done ∷ steps) event each = each_before steps event each

-- a frame that was just handled is not settled
pub each_open : (steps : List Step) (id : ℕ) (frame : Frame) (reply : Reply) → EachSettled (steps ++ Handles id frame reply ∷ []) → ⊥
each_open [] id frame reply each = each.0
each_open (Happens other ∷ steps) id frame reply each = each_open steps id frame reply each
each_open (Handles one other answer ∷ steps) id frame reply each = each_open steps id frame reply each.1
each_open (Settles done ∷ steps) id frame reply each = each_open steps id frame reply each
