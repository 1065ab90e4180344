-- What holds at each moment of some steps, and of those that follow.
use Rattle.std.proofs.Common.{◌≡◌, ℕ, Bool, List, [], ◌∷◌, ◌++◌, map, refl, sym, ap, subst, append_assoc}
use Rattle.std.proofs.lemmas.List.{append-nil}
use Rattle.std.specs.List.{AllByRecursion}
use Rattle.droid_frame.specs.declared.frame.Frame.{Frame}
use Rattle.droid_frame.specs.declared.reply.Reply.{Reply}
use Rattle.droid_turns.specs.Chains.{GoesOver}
use Rattle.droid_turns.specs.Events.{Event}
use Rattle.droid_turns.specs.Steps.{Always, AtEach, Does, Goes, Handles, Happens, Moves, Settles, Step}

-- it held in the end
pub always_end : (P : List Step → Type 0) (before steps : List Step) → Always P before steps → P (before ++ steps)
always_end P before [] always = subst P (sym (append-nil before)) always
always_end P before (step ∷ steps) always = subst P (append_assoc before (step ∷ []) steps) (always_end P (before ++ step ∷ []) steps always.1)

-- and of one after the other
pub always_both : (P : List Step → Type 0) (before steps more : List Step) → Always P before steps → Always P (before ++ steps) more → Always P before (steps ++ more)
always_both P before [] more first later = subst (λ (l : List Step). Always P l more) (append-nil before) later
always_both P before (step ∷ steps) more first later =
    (first.0, always_both P (before ++ step ∷ []) steps more first.1 (subst (λ (l : List Step). Always P l more) (sym (append_assoc before (step ∷ []) steps)) later))

pub always_one : (P : List Step → Type 0) (before : List Step) (step : Step) → P before → P (before ++ step ∷ []) → Always P before (step ∷ [])
always_one P before step first then = (first, then)

-- what each step keeps holds at each moment
pub always_kept : (P : List Step → Type 0) (Q : Step → Type 0) → ((before : List Step) (step : Step) → Q step → P before → P (before ++ step ∷ [])) → (before steps : List Step) → AllByRecursion Q steps → P before → Always P before steps
always_kept P Q keeps before [] all now = now
always_kept P Q keeps before (step ∷ steps) all now = (now, always_kept P Q keeps (before ++ step ∷ []) steps all.1 (keeps before step all.0 now))

pub each_both : (P : List Step → Step → Type 0) (before steps more : List Step) → AtEach P before steps → AtEach P (before ++ steps) more → AtEach P before (steps ++ more)
each_both P before [] more first later = subst (λ (l : List Step). AtEach P l more) (append-nil before) later
each_both P before (step ∷ steps) more first later =
    (first.0, each_both P (before ++ step ∷ []) steps more first.1 (subst (λ (l : List Step). AtEach P l more) (sym (append_assoc before (step ∷ []) steps)) later))

-- it holds of steps of which nothing is to be shown
pub each_free : (P : List Step → Step → Type 0) (Q : Step → Type 0) → ((before : List Step) (step : Step) → Q step → P before step) → (before steps : List Step) → AllByRecursion Q steps → AtEach P before steps
each_free P Q free before [] all = tt
each_free P Q free before (step ∷ steps) all = (free before step all.0, each_free P Q free (before ++ step ∷ []) steps all.1)

-- ---- lists

pub all_both : {A : Type 0} (P : A → Type 0) (xs ys : List A) → AllByRecursion P xs → AllByRecursion P ys → AllByRecursion P (xs ++ ys)
all_both P [] ys are more = more
all_both P (x ∷ xs) ys are more = (are.0, all_both P xs ys are.1 more)

pub all_first : {A : Type 0} (P : A → Type 0) (xs ys : List A) → AllByRecursion P (xs ++ ys) → AllByRecursion P xs
all_first P [] ys are = tt
all_first P (x ∷ xs) ys are = (are.0, all_first P xs ys are.1)

pub all_last : {A : Type 0} (P : A → Type 0) (xs ys : List A) → AllByRecursion P (xs ++ ys) → AllByRecursion P ys
all_last P [] ys are = are
all_last P (x ∷ xs) ys are = all_last P xs ys are.1

pub all_as : {A : Type 0} (P Q : A → Type 0) (xs : List A) → ((x : A) → P x → Q x) → AllByRecursion P xs → AllByRecursion Q xs
all_as P Q [] f are = tt
all_as P Q (x ∷ xs) f are = (f x are.0, all_as P Q xs f are.1)

-- ---- chains, one after the other

pub over_both : {S A : Type 0} (step : S → A → S → Type 0) (first middle last : S) (items more : List A) → GoesOver step first items middle → GoesOver step middle more last → GoesOver step first (items ++ more) last
over_both {S} {A} step first middle last [] more over later = subst (λ (s : S). GoesOver step s more last) over later
over_both {S} {A} step first middle last (item ∷ items) more over later = (over.0, over.1, over_both step over.0 middle last items more over.2 later)

map_both : {A B : Type 0} (f : A → B) (xs ys : List A) → map f (xs ++ ys) ≡ map f xs ++ map f ys
map_both {A} {B} f [] ys = refl
map_both {A} {B} f (x ∷ xs) ys = ap (λ (l : List B). f x ∷ l) (map_both f xs ys)

pub moves_none : {C : Type 0} (does : C → Event → C → Type 0) (connections : C) (P : List Step → Type 0) → P [] → Moves does connections connections P
moves_none does connections P holds = record { events = []; done = refl; holds = holds }

pub moves_one : {C : Type 0} (does : C → Event → C → Type 0) (old new : C) (event : Event) (P : List Step → Type 0) → does old event new → P (Happens event ∷ []) → Moves does old new P
moves_one does old new event P done holds = record { events = event ∷ []; done = (new, done, refl); holds = holds }

pub moves_both : {C : Type 0} (does : C → Event → C → Type 0) (old middle new : C) (P Q R : List Step → Type 0) → ((first later : List Step) → P first → Q later → R (first ++ later))
    → Moves does old middle P → Moves does middle new Q → Moves does old new R
moves_both does old middle new P Q R both first later = record {
  events = first.events ++ later.events;
  done = over_both does old middle new first.events later.events first.done later.done;
  holds = subst R (sym (map_both Happens first.events later.events)) (both (map Happens first.events) (map Happens later.events) first.holds later.holds);
}

pub moves_as : {C : Type 0} (does : C → Event → C → Type 0) (old new : C) (P Q : List Step → Type 0) → ((steps : List Step) → P steps → Q steps) → Moves does old new P → Moves does old new Q
moves_as does old new P Q f moves = record { events = moves.events; done = moves.done; holds = f (map Happens moves.events) moves.holds }

-- ---- the same with a handler

pub goes_none : {C H : Type 0} (does : C → Event → C → Type 0) (handles : H → Frame → Reply → H → Type 0) (settles : H → Bool → H → Type 0) (connections : C) (handler : H) (P : List Step → Type 0) → P [] → Goes does handles settles connections handler connections handler P
goes_none does handles settles connections handler P holds = record { steps = []; done = refl; holds = holds }

over_events : {C H : Type 0} (does : C → Event → C → Type 0) (handles : H → Frame → Reply → H → Type 0) (settles : H → Bool → H → Type 0) (old new : C) (handler : H) (events : List Event) → GoesOver does old events new → GoesOver (Does does handles settles) (old, handler) (map Happens events) (new, handler)
over_events {C} {H} does handles settles old new handler [] over = ap (λ (c : C). (c, handler)) over
over_events {C} {H} does handles settles old new handler (event ∷ events) over = ((over.0, handler), (over.1, refl), over_events does handles settles over.0 new handler events over.2)

pub goes_moving : {C H : Type 0} (does : C → Event → C → Type 0) (handles : H → Frame → Reply → H → Type 0) (settles : H → Bool → H → Type 0) (old new : C) (handler : H) (P : List Step → Type 0) → Moves does old new P → Goes does handles settles old handler new handler P
goes_moving does handles settles old new handler P moves = record { steps = map Happens moves.events; done = over_events does handles settles old new handler moves.events moves.done; holds = moves.holds }

pub goes_handling : {C H : Type 0} (does : C → Event → C → Type 0) (handles : H → Frame → Reply → H → Type 0) (settles : H → Bool → H → Type 0) (connections : C) (old new : H) (id : ℕ) (frame : Frame) (reply : Reply) (P : List Step → Type 0) → handles old frame reply new → P (Handles id frame reply ∷ []) → Goes does handles settles connections old connections new P
goes_handling does handles settles connections old new id frame reply P done holds = record { steps = Handles id frame reply ∷ []; done = ((connections, new), (refl, done), refl); holds = holds }

pub goes_settling : {C H : Type 0} (does : C → Event → C → Type 0) (handles : H → Frame → Reply → H → Type 0) (settles : H → Bool → H → Type 0) (connections : C) (old new : H) (ok : Bool) (P : List Step → Type 0) → settles old ok new → P (Settles ok ∷ []) → Goes does handles settles connections old connections new P
goes_settling does handles settles connections old new ok P done holds = record { steps = Settles ok ∷ []; done = ((connections, new), (refl, done), refl); holds = holds }

pub goes_both : {C H : Type 0} (does : C → Event → C → Type 0) (handles : H → Frame → Reply → H → Type 0) (settles : H → Bool → H → Type 0) (c c1 c2 : C) (h h1 h2 : H) (P Q R : List Step → Type 0) → ((first later : List Step) → P first → Q later → R (first ++ later))
    → Goes does handles settles c h c1 h1 P → Goes does handles settles c1 h1 c2 h2 Q → Goes does handles settles c h c2 h2 R
goes_both does handles settles c c1 c2 h h1 h2 P Q R both first later = record {
  steps = first.steps ++ later.steps;
  done = over_both (Does does handles settles) (c, h) (c1, h1) (c2, h2) first.steps later.steps first.done later.done;
  holds = both first.steps later.steps first.holds later.holds;
}

pub goes_as : {C H : Type 0} (does : C → Event → C → Type 0) (handles : H → Frame → Reply → H → Type 0) (settles : H → Bool → H → Type 0) (c c1 : C) (h h1 : H) (P Q : List Step → Type 0) → ((steps : List Step) → P steps → Q steps) → Goes does handles settles c h c1 h1 P → Goes does handles settles c h c1 h1 Q
goes_as does handles settles c c1 h h1 P Q f goes = record { steps = goes.steps; done = goes.done; holds = f goes.steps goes.holds }

-- ---- one event more

pub moves_event : {C : Type 0} (does : C → Event → C → Type 0) (old middle new : C) (event : Event) (P Q : List Step → Type 0) → ((first : List Step) → P first → Q (first ++ Happens event ∷ [])) → Moves does old middle P → does middle event new → Moves does old new Q
moves_event does old middle new event P Q more first done =
    moves_both does old middle new P (λ (steps : List Step). steps ≡ Happens event ∷ []) Q
    (λ before later so is. subst Q (sym (ap (λ (l : List Step). before ++ l) is)) (more before so)) first
    (moves_one does middle new event (λ (steps : List Step). steps ≡ Happens event ∷ []) done refl)

pub moves_events : {C : Type 0} (does : C → Event → C → Type 0) (old middle then new : C) (one other : Event) (P Q : List Step → Type 0) → ((first : List Step) → P first → Q (first ++ Happens one ∷ Happens other ∷ [])) → Moves does old middle P → does middle one then → does then other new → Moves does old new Q
moves_events does old middle then new one other P Q more first does_one does_other =
    moves_both does old middle new P (λ (steps : List Step). steps ≡ Happens one ∷ Happens other ∷ []) Q
    (λ before later so is. subst Q (sym (ap (λ (l : List Step). before ++ l) is)) (more before so)) first
    (record { events = one ∷ other ∷ []; done = (then, does_one, (new, does_other, refl)); holds = refl })
