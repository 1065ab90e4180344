-- A service through the steps of a loop.
use Rattle.std.proofs.Common.{◌≡◌, ◌≢◌, Bool, true, false, List, [], ◌∷◌, ◌++◌, append_assoc, sym, ap, subst, ◌∙◌, inl, inr}
use Rattle.std.proofs.lemmas.List.{append-nil}
use Rattle.droid_frame.specs.declared.frame.Frame.{Frame}
use Rattle.droid_frame.specs.declared.reply.Reply.{Reply}
use Rattle.droid_core_spec.specs.Histories.{History, history_from}
use Rattle.droid_core.specs.Running.{Runs, without_memory_faults}
use Rattle.droid_core_spec.specs.Setting.{Setting}
use Rattle.droid_core.specs.Standing.{StandsFor, limits_of, registry_of}
use Rattle.droid_core.proofs.Running.{Runs-none, Runs-push}
use Rattle.droid_turns.specs.Chains.{GoesOver}
use Rattle.droid_turns.specs.Events.{Event}
use Rattle.droid_turns.specs.Turns.{EndsBy, ServesAll}
use Rattle.droid_turns.specs.Steps.{Does, FailedToSettle, Goes, Handles, Happens, Settles, Step}
use Rattle.droid_turns.specs.declared.rules.Rules.{Rules}
use Rattle.droid_turns.specs.declared.service_end.Served.{Served}
use Rattle.droid_turns.specs.declared.service_end.Served.TheVariants as ways
use Rattle.droid_wire.specs.OneAnswer.{IsAnswered}
use Rattle.droid_wire.specs.ManyConnections.{ServesMany, events_of, frames_of, replies_of}
use Rattle.droid_wire.specs.declared.service_handler.ServiceHandler.{ServiceHandler}

-- how the handler handles
abbrev pub Answers : ServiceHandler → Frame → Reply → ServiceHandler → Type 0
Answers old frame reply new = IsAnswered old.service frame reply new.service

-- how it settles: it keeps all as it is, and never fails
abbrev pub Keeps : ServiceHandler → Bool → ServiceHandler → Type 0
Keeps old done new = (new ≡ old) × (done ≡ true)

-- it did not fail
abbrev IsNoFailure : Step → Type 0
IsNoFailure (Settles false) = ⊥
IsNoFailure _ = Unit {0}

module _ {C : Type 0} (does : C → Event → C → Type 0) where
  -- the events are those of the connections
  events_done : (steps : List Step) (c later : C) (h after : ServiceHandler) → GoesOver (Does does Answers Keeps) (c, h) steps (later, after) → GoesOver does c (events_of steps) later
  events_done [] c later h after over = ap (λ (pair : C × ServiceHandler). pair.0) over
  events_done (Happens event ∷ steps) c later h after over = (over.0.0, over.1.0, events_done steps over.0.0 later over.0.1 after over.2)
  events_done (Handles id frame reply ∷ steps) c later h after over =
      subst (λ (s : C). GoesOver does s (events_of steps) later) over.1.0 (events_done steps over.0.0 later over.0.1 after over.2)
  events_done (Settles done ∷ steps) c later h after over =
      subst (λ (s : C). GoesOver does s (events_of steps) later) over.1.0 (events_done steps over.0.0 later over.0.1 after over.2)

  -- the service handled the frames among them
  runs_done : (setting : Setting) (history : History) (frames : List Frame) (replies : List Reply) (steps : List Step) (c later : C) (h after : ServiceHandler) → Runs setting history frames replies h.service
      → GoesOver (Does does Answers Keeps) (c, h) steps (later, after) → Runs setting history (frames ++ frames_of steps) (replies ++ replies_of steps) after.service
  runs_done setting history frames replies [] c later h after runs over =
      subst (λ (a : ServiceHandler). Runs setting history (frames ++ []) (replies ++ []) a.service) (sym (ap (λ (pair : C × ServiceHandler). pair.1) over))
      (subst (λ (fs : List Frame). Runs setting history fs (replies ++ []) h.service) (sym (append-nil frames)) (subst (λ (rs : List Reply). Runs setting history frames rs h.service) (sym (append-nil replies)) runs))
  runs_done setting history frames replies (Happens event ∷ steps) c later h after runs over =
      runs_done setting history frames replies steps over.0.0 later over.0.1 after (subst (λ (a : ServiceHandler). Runs setting history frames replies a.service) (sym over.1.1) runs) over.2
  runs_done setting history frames replies (Handles id frame reply ∷ steps) c later h after runs over =
      let here : History = history_from setting history (without_memory_faults frames replies) in
      let one : Runs setting history (frames ++ frame ∷ []) (replies ++ reply ∷ []) over.0.1.service =
      Runs-push setting history frames replies h.service over.0.1.service frame reply runs (over.1.1.handled setting here runs.stands) over.1.1.spelled in
      let more : Runs setting history ((frames ++ frame ∷ []) ++ frames_of steps) ((replies ++ reply ∷ []) ++ replies_of steps) after.service =
      runs_done setting history (frames ++ frame ∷ []) (replies ++ reply ∷ []) steps over.0.0 later over.0.1 after one over.2 in
      subst (λ (fs : List Frame). Runs setting history fs (replies ++ (reply ∷ replies_of steps)) after.service) (append_assoc frames (frame ∷ []) (frames_of steps))
      (subst (λ (rs : List Reply). Runs setting history ((frames ++ frame ∷ []) ++ frames_of steps) rs after.service) (append_assoc replies (reply ∷ []) (replies_of steps)) more)
  runs_done setting history frames replies (Settles done ∷ steps) c later h after runs over =
      runs_done setting history frames replies steps over.0.0 later over.0.1 after (subst (λ (a : ServiceHandler). Runs setting history frames replies a.service) (sym over.1.1.0) runs) over.2

  limits_done : (steps : List Step) (c later : C) (h after : ServiceHandler) → GoesOver (Does does Answers Keeps) (c, h) steps (later, after) → limits_of after.service ≡ limits_of h.service
  limits_done [] c later h after over = ap (λ (pair : C × ServiceHandler). limits_of pair.1.service) over
  limits_done (Happens event ∷ steps) c later h after over = limits_done steps over.0.0 later over.0.1 after over.2 ∙ ap (λ (a : ServiceHandler). limits_of a.service) over.1.1
  limits_done (Handles id frame reply ∷ steps) c later h after over = limits_done steps over.0.0 later over.0.1 after over.2 ∙ over.1.1.same_limits
  limits_done (Settles done ∷ steps) c later h after over = limits_done steps over.0.0 later over.0.1 after over.2 ∙ ap (λ (a : ServiceHandler). limits_of a.service) over.1.1.0

  registry_done : (steps : List Step) (c later : C) (h after : ServiceHandler) → GoesOver (Does does Answers Keeps) (c, h) steps (later, after) → registry_of after.service ≡ registry_of h.service
  registry_done [] c later h after over = ap (λ (pair : C × ServiceHandler). registry_of pair.1.service) over
  registry_done (Happens event ∷ steps) c later h after over = registry_done steps over.0.0 later over.0.1 after over.2 ∙ ap (λ (a : ServiceHandler). registry_of a.service) over.1.1
  registry_done (Handles id frame reply ∷ steps) c later h after over = registry_done steps over.0.0 later over.0.1 after over.2 ∙ over.1.1.same_registry
  registry_done (Settles done ∷ steps) c later h after over = registry_done steps over.0.0 later over.0.1 after over.2 ∙ ap (λ (a : ServiceHandler). registry_of a.service) over.1.1.0

  never_failed : (steps : List Step) (c later : C) (h after : ServiceHandler) → GoesOver (Does does Answers Keeps) (c, h) steps (later, after) → FailedToSettle steps → ⊥
  never_failed [] c later h after over there = there
  never_failed (Happens event ∷ steps) c later h after over (inl here) = subst IsNoFailure here tt
  never_failed (Handles id frame reply ∷ steps) c later h after over (inl here) = subst IsNoFailure here tt
  never_failed (Settles done ∷ steps) c later h after over (inl here) =
      let kept : Settles true ≡ Settles false = subst (λ (b : Bool). Settles b ≡ Settles false) over.1.1.1 here in
      subst IsNoFailure kept tt
  never_failed (Happens event ∷ steps) c later h after over (inr there) = never_failed steps over.0.0 later over.0.1 after over.2 there
  never_failed (Handles id frame reply ∷ steps) c later h after over (inr there) = never_failed steps over.0.0 later over.0.1 after over.2 there
  never_failed (Settles done ∷ steps) c later h after over (inr there) = never_failed steps over.0.0 later over.0.1 after over.2 there

  pub serves_many : (rules : Rules) (setting : Setting) (history : History) (c later : C) (h after : ServiceHandler) (result : Served) → StandsFor setting h.service history → Goes does Answers Keeps c h later after (ServesAll rules result)
      → ServesMany does rules setting history c later after.service result
  serves_many rules setting history c later h after result stands goes = record {
    steps = goes.steps;
    done = events_done goes.steps c later h after goes.done;
    serves = goes.holds;
    runs = runs_done setting history [] [] goes.steps c later h after (Runs-none setting history h.service stands) goes.done;
  }

  -- the same of the connections alone
  pub events_so : (P : List Step → Type 0) (c later : C) (h after : ServiceHandler) (goes : Goes does Answers Keeps c h later after P) → GoesOver does c (events_of goes.steps) later
  events_so P c later h after goes = events_done goes.steps c later h after goes.done

  -- the same, whatever else is known of the steps
  pub serves_so : (P : List Step → Type 0) (setting : Setting) (history : History) (c later : C) (h after : ServiceHandler) → StandsFor setting h.service history → (goes : Goes does Answers Keeps c h later after P)
      → GoesOver does c (events_of goes.steps) later × Runs setting history (frames_of goes.steps) (replies_of goes.steps) after.service
  serves_so P setting history c later h after stands goes = (
    events_done goes.steps c later h after goes.done,
    runs_done setting history [] [] goes.steps c later h after (Runs-none setting history h.service stands) goes.done,
  )

  pub all_as : (P : List Step → Type 0) (rules : Rules) (c later : C) (h after : ServiceHandler) (result : Served) → Goes does Answers Keeps c h later after P → ((steps : List Step) → P steps → ServesAll rules result steps)
      → Goes does Answers Keeps c h later after (ServesAll rules result)
  all_as P rules c later h after result goes f = record { steps = goes.steps; done = goes.done; holds = f goes.steps goes.holds }

  pub same_limits : (rules : Rules) (c later : C) (h after : ServiceHandler) (result : Served) → Goes does Answers Keeps c h later after (ServesAll rules result) → limits_of after.service ≡ limits_of h.service
  same_limits rules c later h after result goes = limits_done goes.steps c later h after goes.done

  pub same_registry : (rules : Rules) (c later : C) (h after : ServiceHandler) (result : Served) → Goes does Answers Keeps c h later after (ServesAll rules result) → registry_of after.service ≡ registry_of h.service
  same_registry rules c later h after result goes = registry_done goes.steps c later h after goes.done

  pub always_settled : (rules : Rules) (c later : C) (h after : ServiceHandler) (result : Served) → Goes does Answers Keeps c h later after (ServesAll rules result) → result ≢ ways.Unsettled
  always_settled rules c later h after result goes = λ is. never_failed goes.steps c later h after goes.done (subst (λ (r : Served). EndsBy rules.total r goes.steps) is goes.holds.ended)
