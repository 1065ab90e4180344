-- What was handled is settled before it is shown.
use Rattle.std.proofs.Common.{◌≡◌, ℕ, ◌+◌, Bool, true, false, cond, count_by, List, [], ◌∷◌, ◌++◌, length, fold, refl, sym, ap, subst, ◌∙◌, append_assoc, arith, inl, inr, ◌⊎◌}
use Rattle.std.specs.List.{AllByRecursion}
use Rattle.std.proofs.lemmas.List.{append-nil, length-append, nil_from_length}
use Rattle.std.proofs.lemmas.List.Sums.{fold-append, sum_by-append}
use Rattle.droid_turns.specs.Events.{Opened, NoneOpened, Read, Ended, Unread, Wrote, Unwritten, Closed, Timed, Waited, Unwaited}
use Rattle.droid_turns.specs.Halls.{IsClosing, IsWriting, SettlesBetween}
use Rattle.droid_turns.specs.Peers.{IsHearing}
use Rattle.droid_turns.specs.Turns.{SettledOnce, SettlesFirst}
use Rattle.droid_turns.specs.Steps.{AllSettled, AtEach, EachSettled, FailedToSettle, Handles, Happens, IsTraffic, NeverFailed, SettledSo, Settles, Step, handled, handled_in, is_settling, turn_behind, turn_of}
use Rattle.droid_turns.specs.declared.departure.Departure.{Departure}
use Rattle.droid_turns.specs.declared.departure.Departure.TheVariants as departures
use Rattle.droid_turns.proofs.OwnSteps.{handled_here}
use Rattle.droid_turns.proofs.Moments.{all_as, all_both, each_both}

-- ---- settlings among steps

pub settled_last : (done : Bool) (steps more : List Step) → SettledSo done more → SettledSo done (steps ++ more)
settled_last done [] more there = there
settled_last done (step ∷ steps) more there = inr (settled_last done steps more there)

pub settled_then : (done : Bool) (steps more : List Step) → SettledSo done steps → SettledSo done (steps ++ more)
settled_then done [] more there = absurd there
settled_then done (step ∷ steps) more (inl here) = inl here
settled_then done (step ∷ steps) more (inr later) = inr (settled_then done steps more later)

settled_either : (done : Bool) (steps more : List Step) → SettledSo done (steps ++ more) → SettledSo done steps ⊎ SettledSo done more
settled_either done [] more there = inr there
settled_either done (step ∷ steps) more (inl here) = inl (inl here)
settled_either done (step ∷ steps) more (inr later) = elim (settled_either done steps more later) [ inl old ↦ inl (inr old) | inr new ↦ inr new ]

-- K holds of no settling
abbrev Excludes : (Step → Type 0) → Type 0
Excludes K = (done : Bool) → K (Settles done) → ⊥

none_settled : (K : Step → Type 0) → Excludes K → (done : Bool) (steps : List Step) → AllByRecursion K steps → SettledSo done steps → ⊥
none_settled K no_settling done [] all there = there
none_settled K no_settling done (step ∷ steps) all (inl here) = no_settling done (subst K here all.0)
none_settled K no_settling done (step ∷ steps) all (inr later) = none_settled K no_settling done steps all.1 later

never_more : (K : Step → Type 0) → Excludes K → (steps more : List Step) → AllByRecursion K more → NeverFailed steps → NeverFailed (steps ++ more)
never_more K no_settling steps more all never = λ there. elim (settled_either false steps more there) [ inl old ↦ never old | inr new ↦ none_settled K no_settling false more all new ]

none_heard : Excludes IsHearing
none_heard done is = is

none_writing : Excludes IsWriting
none_writing done is = is

-- ---- the law, at one step

closed_first : (before : List Step) (id : ℕ) (why : Departure) → NeverFailed before → SettlesFirst before (Happens (Closed id why))
closed_first before id departures.Closed never = never
closed_first before id departures.Enough never = never
closed_first before id (departures.Frame fault) never = never
closed_first before id departures.Memory never = never
closed_first before id departures.Write never = never
closed_first before id departures.Idle never = never
closed_first before id departures.Stopped never = never
closed_first before id departures.Unsettled never = tt

heard_first : (before : List Step) (step : Step) → IsHearing step → NeverFailed before → SettlesFirst before step
heard_first before (Happens (Waited limit)) is never = absurd is
heard_first before (Happens (Wrote id bytes)) is never = absurd is
heard_first before (Happens (Unwritten id)) is never = absurd is
heard_first before (Happens (Closed id why)) is never = closed_first before id why never
heard_first before (Happens Unwaited) is never = never
heard_first before (Happens (Timed time)) is never = never
heard_first before (Happens (Opened id)) is never = never
heard_first before (Happens NoneOpened) is never = never
heard_first before (Happens (Read id bytes)) is never = never
heard_first before (Happens (Ended id)) is never = never
heard_first before (Happens (Unread id)) is never = never
heard_first before (Handles id frame reply) is never = never
heard_first before (Settles done) is never = absurd is

writing_first : (before : List Step) (step : Step) → IsWriting step → AllSettled before → SettlesFirst before step
writing_first before (Happens (Waited limit)) is so = absurd is
writing_first before (Happens (Wrote id bytes)) is so = so
writing_first before (Happens (Unwritten id)) is so = so
writing_first before (Happens (Closed id why)) is so = closed_first before id why so.never_failed
writing_first before (Happens Unwaited) is so = so.never_failed
writing_first before (Happens (Timed time)) is so = so.never_failed
writing_first before (Happens (Opened id)) is so = so.never_failed
writing_first before (Happens NoneOpened) is so = so.never_failed
writing_first before (Happens (Read id bytes)) is so = so.never_failed
writing_first before (Happens (Ended id)) is so = so.never_failed
writing_first before (Happens (Unread id)) is so = so.never_failed
writing_first before (Handles id frame reply) is so = absurd is
writing_first before (Settles done) is so = absurd is

-- ---- what is settled stays so while nothing is handled

each_none : (more : List Step) → AllByRecursion IsWriting more → EachSettled more
each_none [] all = tt
each_none (Happens event ∷ more) all = each_none more all.1
each_none (Handles id frame reply ∷ more) all = absurd all.0
each_none (Settles done ∷ more) all = absurd all.0

each_more : (steps more : List Step) → AllByRecursion IsWriting more → EachSettled steps → EachSettled (steps ++ more)
each_more [] more all each = each_none more all
each_more (Happens event ∷ steps) more all each = each_more steps more all each
each_more (Handles id frame reply ∷ steps) more all each = (settled_then true steps more each.0, each_more steps more all each.1)
each_more (Settles done ∷ steps) more all each = each_more steps more all each

settled_more : (steps more : List Step) → AllByRecursion IsWriting more → AllSettled steps → AllSettled (steps ++ more)
settled_more steps more all so = record { each = each_more steps more all so.each; never_failed = never_more IsWriting none_writing steps more all so.never_failed }

-- ---- the handler settles

each_settled : (steps : List Step) → EachSettled (steps ++ Settles true ∷ [])
each_settled [] = tt
each_settled (Happens event ∷ steps) = each_settled steps
each_settled (Handles id frame reply ∷ steps) = (settled_last true steps (Settles true ∷ []) (inl refl), each_settled steps)
each_settled (Settles done ∷ steps) = each_settled steps

abbrev DidSettle : Step → Type 0
DidSettle (Settles false) = ⊥
DidSettle _ = Unit {0}

not_failed : SettledSo false (Settles true ∷ []) → ⊥
not_failed (inl here) = subst DidSettle here tt
not_failed (inr none) = none

settled_now : (steps : List Step) → NeverFailed steps → AllSettled (steps ++ Settles true ∷ [])
settled_now steps never = record {
  each = each_settled steps;
  never_failed = λ there. elim (settled_either false steps (Settles true ∷ []) there) [ inl old ↦ never old | inr new ↦ not_failed new ];
}

-- ---- the law, at many steps

heard_each : (before steps : List Step) → AllByRecursion IsHearing steps → NeverFailed before → AtEach SettlesFirst before steps
heard_each before [] all never = tt
heard_each before (step ∷ steps) all never =
    (heard_first before step all.0 never, heard_each (before ++ step ∷ []) steps all.1 (never_more IsHearing none_heard before (step ∷ []) (all.0, tt) never))

writing_each : (before steps : List Step) → AllByRecursion IsWriting steps → AllSettled before → AtEach SettlesFirst before steps
writing_each before [] all so = tt
writing_each before (step ∷ steps) all so = (writing_first before step all.0 so, writing_each (before ++ step ∷ []) steps all.1 (settled_more before (step ∷ []) (all.0, tt) so))

closed_each : (before steps : List Step) → AllByRecursion (IsClosing departures.Unsettled) steps → AtEach SettlesFirst before steps
closed_each before [] all = tt
closed_each before (step ∷ steps) all = (subst (SettlesFirst before) (sym all.0.1) tt, closed_each (before ++ step ∷ []) steps all.1)

-- ---- the loop

-- the law held at each step, and all that was handled is settled
pub record IsOrdered (steps : List Step) : Type 0 where
  pub order : AtEach SettlesFirst [] steps
  pub settled : AllSettled steps

pub ordered_none : IsOrdered []
ordered_none = record { order = tt; settled = record { each = tt; never_failed = λ there. there } }

-- nothing more was handled
pub ordered_on : (first later : List Step) → AllByRecursion IsWriting later → IsOrdered first → IsOrdered (first ++ later)
ordered_on first later writing so = record {
  order = each_both SettlesFirst [] first later so.order (writing_each first later writing so.settled);
  settled = settled_more first later writing so.settled;
}

-- the loop has not begun, or the handler settled once since the wait before
abbrev pub IsOnce : List Step → Type 0
IsOnce steps = (steps ≡ []) ⊎ SettledOnce (turn_of steps)

-- no settling
abbrev IsOther : Step → Type 0
IsOther (Settles done) = ⊥
IsOther _ = Unit {0}

never_waited : (first : List Step) (limit : ℕ) → NeverFailed first → NeverFailed (first ++ Happens (Waited limit) ∷ [])
never_waited first limit never = never_more IsOther (λ done is. is) first (Happens (Waited limit) ∷ []) (tt, tt) never

never_heard : (first heard : List Step) (limit : ℕ) → AllByRecursion IsHearing heard → NeverFailed first → NeverFailed ((first ++ Happens (Waited limit) ∷ []) ++ heard)
never_heard first heard limit hearing never = never_more IsHearing none_heard (first ++ Happens (Waited limit) ∷ []) heard hearing (never_waited first limit never)

-- the loop waited, and then each connection was heard
heard_order : (first heard rest : List Step) (limit : ℕ) → IsOrdered first → IsOnce first → AllByRecursion IsHearing heard → AtEach SettlesFirst ((first ++ Happens (Waited limit) ∷ []) ++ heard) rest
    → AtEach SettlesFirst [] (first ++ Happens (Waited limit) ∷ (heard ++ rest))
heard_order first heard rest limit so once hearing later =
    let waited : List Step = first ++ Happens (Waited limit) ∷ [] in
    let turn : AtEach SettlesFirst waited (heard ++ rest) = each_both SettlesFirst waited heard rest (heard_each waited heard hearing (never_waited first limit so.settled.never_failed)) later in
    each_both SettlesFirst [] first (Happens (Waited limit) ∷ (heard ++ rest)) so.order ((so.settled, once), turn)

turn_parts : (first heard later : List Step) (limit : ℕ) (done : Bool)
    → (((first ++ Happens (Waited limit) ∷ []) ++ heard) ++ Settles done ∷ []) ++ later ≡ first ++ Happens (Waited limit) ∷ (heard ++ Settles done ∷ later)
turn_parts first heard later limit done =
    let waited : List Step = first ++ Happens (Waited limit) ∷ [] in
    append_assoc (waited ++ heard) (Settles done ∷ []) later ∙ (append_assoc waited heard (Settles done ∷ later) ∙ append_assoc first (Happens (Waited limit) ∷ []) (heard ++ Settles done ∷ later))

-- the handler settled, and then what waited was written
pub ordered_turn : (first more : List Step) (limit : ℕ) → IsOrdered first → IsOnce first → SettlesBetween true IsWriting more → IsOrdered (first ++ Happens (Waited limit) ∷ more)
ordered_turn first more limit so once between =
    let heard : List Step = (first ++ Happens (Waited limit) ∷ []) ++ between.first in
    let never : NeverFailed heard = never_heard first between.first limit between.hearing so.settled.never_failed in
    let now : AllSettled (heard ++ Settles true ∷ []) = settled_now heard never in
    let order : AtEach SettlesFirst [] (first ++ Happens (Waited limit) ∷ (between.first ++ Settles true ∷ between.later)) =
    heard_order first between.first (Settles true ∷ between.later) limit so once between.hearing (never, writing_each (heard ++ Settles true ∷ []) between.later between.rest now) in
    let settled : AllSettled ((heard ++ Settles true ∷ []) ++ between.later) = settled_more (heard ++ Settles true ∷ []) between.later between.rest now in
    subst (λ (l : List Step). IsOrdered (first ++ Happens (Waited limit) ∷ l)) (sym between.parts)
    (record { order = order; settled = subst AllSettled (turn_parts first between.first between.later limit true) settled })

-- or it failed to, and every connection was closed
pub order_failed : (first more : List Step) (limit : ℕ) → IsOrdered first → IsOnce first → SettlesBetween false (IsClosing departures.Unsettled) more → AtEach SettlesFirst [] (first ++ Happens (Waited limit) ∷ more)
order_failed first more limit so once between =
    let heard : List Step = (first ++ Happens (Waited limit) ∷ []) ++ between.first in
    let never : NeverFailed heard = never_heard first between.first limit between.hearing so.settled.never_failed in
    subst (λ (l : List Step). AtEach SettlesFirst [] (first ++ Happens (Waited limit) ∷ l)) (sym between.parts)
    (heard_order first between.first (Settles false ∷ between.later) limit so once between.hearing (never, closed_each (heard ++ Settles false ∷ []) between.later between.rest))

pub failed_there : (first more : List Step) (limit : ℕ) → SettlesBetween false (IsClosing departures.Unsettled) more → FailedToSettle (first ++ Happens (Waited limit) ∷ more)
failed_there first more limit between =
    settled_last false first (Happens (Waited limit) ∷ more) (inr (subst FailedToSettle (sym between.parts) (settled_last false between.first (Settles false ∷ between.later) (inl refl))))

-- ---- once in each turn

-- the step ends no turn
abbrev GoesOn : Step → Type 0
GoesOn step = (turn : List Step) → turn_behind turn step ≡ turn ++ step ∷ []

heard_goes_on : (step : Step) → IsHearing step → GoesOn step
heard_goes_on (Happens (Waited limit)) is = absurd is
heard_goes_on (Happens (Wrote id bytes)) is = λ turn. refl
heard_goes_on (Happens (Unwritten id)) is = λ turn. refl
heard_goes_on (Happens (Closed id why)) is = λ turn. refl
heard_goes_on (Happens Unwaited) is = λ turn. refl
heard_goes_on (Happens (Timed time)) is = λ turn. refl
heard_goes_on (Happens (Opened id)) is = λ turn. refl
heard_goes_on (Happens NoneOpened) is = λ turn. refl
heard_goes_on (Happens (Read id bytes)) is = λ turn. refl
heard_goes_on (Happens (Ended id)) is = λ turn. refl
heard_goes_on (Happens (Unread id)) is = λ turn. refl
heard_goes_on (Handles id frame reply) is = λ turn. refl
heard_goes_on (Settles done) is = λ turn. refl

writing_goes_on : (step : Step) → IsWriting step → GoesOn step
writing_goes_on (Happens (Waited limit)) is = absurd is
writing_goes_on (Happens (Wrote id bytes)) is = λ turn. refl
writing_goes_on (Happens (Unwritten id)) is = λ turn. refl
writing_goes_on (Happens (Closed id why)) is = λ turn. refl
writing_goes_on (Happens Unwaited) is = λ turn. refl
writing_goes_on (Happens (Timed time)) is = λ turn. refl
writing_goes_on (Happens (Opened id)) is = λ turn. refl
writing_goes_on (Happens NoneOpened) is = λ turn. refl
writing_goes_on (Happens (Read id bytes)) is = λ turn. refl
writing_goes_on (Happens (Ended id)) is = λ turn. refl
writing_goes_on (Happens (Unread id)) is = λ turn. refl
writing_goes_on (Handles id frame reply) is = λ turn. refl
writing_goes_on (Settles done) is = λ turn. refl

turn_still : (turn more : List Step) → AllByRecursion GoesOn more → fold turn_behind turn more ≡ turn ++ more
turn_still turn [] all = sym (append-nil turn)
turn_still turn (step ∷ more) all = ap (λ (t : List Step). fold turn_behind t more) (all.0 turn) ∙ (turn_still (turn ++ step ∷ []) more all.1 ∙ append_assoc turn (step ∷ []) more)

count_sum : (steps more : List Step) → count_by is_settling (steps ++ more) ≡ count_by is_settling steps + count_by is_settling more
count_sum steps more = omega (arith, sum_by-append (λ (s : Step). cond (is_settling s) 1 0) steps more)

count_none : (K : Step → Type 0) → Excludes K → (steps : List Step) → AllByRecursion K steps → count_by is_settling steps ≡ 0
count_none K no_settling [] all = refl
count_none K no_settling (Happens event ∷ steps) all = omega (arith, count_none K no_settling steps all.1)
count_none K no_settling (Handles id frame reply ∷ steps) all = omega (arith, count_none K no_settling steps all.1)
count_none K no_settling (Settles done ∷ steps) all = absurd (no_settling done all.0)

pub once_turn : (first more : List Step) (limit : ℕ) → SettlesBetween true IsWriting more → SettledOnce (turn_of (first ++ Happens (Waited limit) ∷ more))
once_turn first more limit between =
    let still : AllByRecursion GoesOn (between.first ++ Settles true ∷ between.later) =
    all_both GoesOn between.first (Settles true ∷ between.later) (all_as IsHearing GoesOn between.first heard_goes_on between.hearing) ((λ turn. refl), all_as IsWriting GoesOn between.later writing_goes_on between.rest) in
    let turn : turn_of (first ++ Happens (Waited limit) ∷ more) ≡ more =
    fold-append turn_behind [] first (Happens (Waited limit) ∷ more) ∙ turn_still [] more (subst (AllByRecursion GoesOn) (sym between.parts) still) in
    let none_before : count_by is_settling between.first ≡ 0 = count_none IsHearing none_heard between.first between.hearing in
    let none_behind : count_by is_settling between.later ≡ 0 = count_none IsWriting none_writing between.later between.rest in
    let joined : count_by is_settling (Settles true ∷ between.later) ≡ count_by is_settling (Settles true ∷ []) + count_by is_settling between.later = count_sum (Settles true ∷ []) between.later in
    let single : count_by is_settling (Settles true ∷ []) ≡ 1 = refl in
    let one : count_by is_settling (Settles true ∷ between.later) ≡ 1 = omega (arith, joined, single, none_behind) in
    let all : count_by is_settling (between.first ++ Settles true ∷ between.later) ≡ 1 = omega (arith, count_sum between.first (Settles true ∷ between.later), none_before, one) in
    subst SettledOnce (sym (turn ∙ between.parts)) all

-- ---- what is written to a connection

traffic_writing : (id : ℕ) (step : Step) → IsTraffic id step → length (handled_in id step) ≡ 0 → IsWriting step
traffic_writing id (Happens (Waited limit)) is none = absurd is
traffic_writing id (Happens event) is none = tt
traffic_writing id (Handles who frame reply) is none =
    let here : length (handled_in id (Handles id frame reply)) ≡ 0 = subst (λ (w : ℕ). length (handled_in id (Handles w frame reply)) ≡ 0) is none in
    absurd (omega (arith, here, ap length (handled_here id frame reply)))
traffic_writing id (Settles done) is none = absurd is

-- traffic of a connection of which no frame is handled
pub writing : (id : ℕ) (more : List Step) → AllByRecursion (IsTraffic id) more → handled id more ≡ [] → AllByRecursion IsWriting more
writing id [] own none = tt
writing id (step ∷ more) own none =
    let size : length (handled_in id step) + length (handled id more) ≡ 0 = omega (arith, length-append (handled_in id step) (handled id more), ap length none) in
    (traffic_writing id step own.0 (omega (arith, size)), writing id more own.1 (nil_from_length (handled id more) (omega (arith, size))))
