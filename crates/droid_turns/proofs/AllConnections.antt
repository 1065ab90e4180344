-- What the loop keeps of all connections, after some steps more.
use Rattle.std.proofs.Common.{◌≡◌, ℕ, zero, suc, ◌+◌, ◌<◌, ◌≤◌, Bool, true, false, cond, eqb, List, [], ◌∷◌, ◌++◌, length, ◌⊎◌, Some, refl, sym, ap, subst, ◌∙◌, append_assoc, arith, inl, inr}
use Rattle.std.specs.List.{AllByRecursion}
use Rattle.std.proofs.lemmas.Bool.{cases_lt, eq-eqb, ne_eqb}
use Rattle.std.proofs.lemmas.Bool.Decides.{eqb_tells}
use Rattle.std.proofs.lemmas.List.{length-append}
use Rattle.std.proofs.lemmas.List.Sums.{fold-append}
use Rattle.droid_frame.specs.declared.frame.Frame.{Frame}
use Rattle.droid_frame.specs.declared.reply.Reply.{Reply}
use Rattle.droid_turns.specs.Departures.{Explains, IsServed, Serves, frames_bound}
use Rattle.droid_turns.specs.Events.{Event, Opened, NoneOpened, Read, Ended, Unread, Wrote, Unwritten, Closed, Timed, Waited, Unwaited}
use Rattle.droid_turns.specs.Halls.{IsCalm, IsWithin, Keeps, one_at}
use Rattle.droid_turns.specs.Turns.{HasLeft, IsFair, IsOpenAfter, IsSeated}
use Rattle.droid_turns.specs.Steps.{Always, AreOfOthers, Happened, Handles, Happens, IsOf, IsOfOther, IsTraffic, Settles, Step, bytes_read, bytes_written, came, closed, closed_by, handled, handled_in, numbers, opened, opened_by, turn_behind, turn_of}
use Rattle.droid_turns.specs.declared.departure.Departure.{Departure}
use Rattle.droid_turns.specs.declared.rules.Rules.{Rules}
use Rattle.droid_turns.proofs.OwnSteps.{Elsewhere, all_elsewhere, calm, came_elsewhere, handled_elsewhere, none_gathered, none_more, one_more, turn_more, turn_waited}
use Rattle.droid_turns.proofs.Moments.{all_both, always_both, always_end, always_kept, always_one, each_both, each_free}
use Rattle.droid_turns.proofs.PeerSteps.{happened_here, happened_then, serves_elsewhere}
use Rattle.droid_turns.proofs.ServesMore.{serves_still}

-- ---- one connection

pub one_here : (id : ℕ) → one_at id id ≡ 1
unfolding one_at
one_here id = ap (λ (b : Bool). cond b 1 0) (eq-eqb id id refl)

pub one_other : (who id : ℕ) → (who ≡ id → ⊥) → one_at who id ≡ 0
unfolding one_at
one_other who id other = ap (λ (b : Bool). cond b 1 0) (ne_eqb who id other)

one_small_by : (b : Bool) → cond b 1 0 ≤ 1
one_small_by true = omega arith
one_small_by false = omega arith

one_small : (who id : ℕ) → one_at who id ≤ 1
unfolding one_at
one_small who id = one_small_by (eqb who id)

pub cases_zero : (n : ℕ) → (n ≡ 0) ⊎ (0 < n)
cases_zero zero = inl refl
cases_zero (suc n) = inr (omega arith)

pub lt_self : (n : ℕ) → n < n → ⊥
lt_self n less = absurd (omega (arith, less))

strictly_below : (count id : ℕ) → id < count + 1 → (count ≡ id → ⊥) → id < count
strictly_below count id less other = elim (cases_lt id count) [ inl is ↦ is | inr not ↦ absurd (other (omega (arith, less, not))) ]

pub left_more : (idle id : ℕ) (steps more : List Step) → HasLeft idle id steps → AreOfOthers id more → HasLeft idle id (steps ++ more)
left_more idle id steps more left others = record {
  why = left.why;
  before = left.before;
  later = left.later ++ more;
  parts = ap (λ (l : List Step). l ++ more) left.parts ∙ append_assoc left.before (Happens (Closed id left.why) ∷ left.later) more;
  was_open = left.was_open;
  nothing_later = all_both (IsOfOther id) left.later more left.nothing_later others;
  held = left.held;
  queued = left.queued;
  serves = left.serves;
  explained = left.explained;
}

-- ---- numbers

numbers_more : (count : ℕ) → numbers (count + 1) ≡ numbers count ++ count ∷ []
numbers_more count = let same : count + 1 ≡ suc count = omega arith in ap numbers same

pub numbers_size : (count : ℕ) → length (numbers count) ≡ count
numbers_size zero = refl
numbers_size (suc count) = length-append (numbers count) (count ∷ []) ∙ (let same : length (numbers count) + 1 ≡ suc count = omega (arith, numbers_size count) in same)

-- ---- it was not closed

happened_either : (event : Event) (steps more : List Step) → Happened event (steps ++ more) → Happened event steps ⊎ Happened event more
happened_either event [] more there = inr there
happened_either event (step ∷ steps) more (inl here) = inl (inl here)
happened_either event (step ∷ steps) more (inr later) = elim (happened_either event steps more later) [ inl old ↦ inl (inr old) | inr new ↦ inr new ]

own_closing : (id : ℕ) (why : Departure) → IsOf id (Happens (Closed id why))
own_closing id why = refl

-- its traffic closes nothing
traffic_open : (who id : ℕ) (why : Departure) (more : List Step) → AllByRecursion (IsTraffic who) more → Happened (Closed id why) more → ⊥
traffic_open who id why [] own there = there
traffic_open who id why (step ∷ more) own (inl here) = subst (IsTraffic who) here own.0
traffic_open who id why (step ∷ more) own (inr later) = traffic_open who id why more own.1 later

-- nor do steps of others
others_open : (id : ℕ) (why : Departure) (steps : List Step) → AreOfOthers id steps → Happened (Closed id why) steps → ⊥
others_open id why [] others there = there
others_open id why (step ∷ steps) others (inl here) = others.0 (subst (IsOf id) (sym here) (own_closing id why))
others_open id why (step ∷ steps) others (inr later) = others_open id why steps others.1 later

abbrev not_opening : Step → Type 0
not_opening (Happens (Opened who)) = ⊥
not_opening _ = Unit {0}

opening_open : (who id : ℕ) (why : Departure) → Happened (Closed id why) (Happens (Opened who) ∷ []) → ⊥
opening_open who id why (inl here) = subst not_opening (sym here) tt
opening_open who id why (inr none) = none

-- steps in which nothing of it was read, written or handled
pub served_elsewhere : (id : ℕ) (steps more : List Step) → AllByRecursion (Elsewhere id) more → IsServed id steps → IsServed id (steps ++ more)
served_elsewhere id steps more all served = record { held = served.held; queued = served.queued; serves = serves_elsewhere id steps more served.held served.queued all served.serves }

-- the same of one step
served_quiet : (id : ℕ) (steps : List Step) (step : Step) → bytes_read id step ≡ [] → bytes_written id step ≡ [] → handled_in id step ≡ [] → IsServed id steps → IsServed id (steps ++ step ∷ [])
served_quiet id steps step no_bytes none_out no_frame served = record { held = served.held; queued = served.queued; serves = serves_still id steps step served.held served.queued no_bytes none_out no_frame served.serves }

pub always_elsewhere : (id : ℕ) (steps more : List Step) → AllByRecursion (Elsewhere id) more → IsServed id steps → Always (IsServed id) steps more
always_elsewhere id steps more all served = always_kept (IsServed id) (Elsewhere id) (λ before step away now. served_elsewhere id before (step ∷ []) (away, tt) now) steps more all served

pub within_elsewhere : (share id : ℕ) (steps more : List Step) → AllByRecursion (Elsewhere id) more → AllByRecursion IsCalm more → IsWithin share id (turn_of steps) → IsWithin share id (turn_of (steps ++ more))
within_elsewhere share id steps more all still within =
    let turn = turn_more steps more still in
    let same_frames : handled id (turn_of (steps ++ more)) ≡ handled id (turn_of steps) = ap (handled id) turn ∙ none_gathered (handled_in id) (turn_of steps) more (handled_elsewhere id more all) in
    let same_bytes : came id (turn_of (steps ++ more)) ≡ came id (turn_of steps) = ap (came id) turn ∙ none_gathered (bytes_read id) (turn_of steps) more (came_elsewhere id more all) in
    record { frames = omega (arith, ap length same_frames, within.frames); bytes = omega (arith, ap length same_bytes, within.bytes) }

-- ---- steps of one connection

other_traffic : (who id : ℕ) (step : Step) → IsTraffic who step → (who ≡ id → ⊥) → IsOf id step → ⊥
other_traffic who id (Happens (Read one bytes)) is other own = other (sym is ∙ own)
other_traffic who id (Happens (Wrote one bytes)) is other own = other (sym is ∙ own)
other_traffic who id (Happens (Ended one)) is other own = other (sym is ∙ own)
other_traffic who id (Happens (Unread one)) is other own = other (sym is ∙ own)
other_traffic who id (Happens (Unwritten one)) is other own = other (sym is ∙ own)
other_traffic who id (Happens (Waited limit)) is other own = absurd is
other_traffic who id (Happens Unwaited) is other own = absurd is
other_traffic who id (Happens (Timed time)) is other own = absurd is
other_traffic who id (Happens (Opened one)) is other own = absurd is
other_traffic who id (Happens NoneOpened) is other own = absurd is
other_traffic who id (Happens (Closed one why)) is other own = absurd is
other_traffic who id (Handles one frame reply) is other own = other (sym is ∙ own)
other_traffic who id (Settles done) is other own = absurd is

others_traffic : (who id : ℕ) (more : List Step) → AllByRecursion (IsTraffic who) more → (who ≡ id → ⊥) → AreOfOthers id more
others_traffic who id [] all other = tt
others_traffic who id (step ∷ more) all other = (other_traffic who id step all.0 other, others_traffic who id more all.1 other)

-- neither opens nor closes, and needs no word on turns
record IsPlain (step : Step) : Type 0 where
  opens : opened_by step ≡ []
  closes : closed_by step ≡ []
  free : (rules : Rules) (before : List Step) → IsFair rules before step

none_traffic : (who : ℕ) (step : Step) → IsTraffic who step → IsPlain step
none_traffic who (Happens (Read one bytes)) is = record { opens = refl; closes = refl; free = λ rules before. tt }
none_traffic who (Happens (Wrote one bytes)) is = record { opens = refl; closes = refl; free = λ rules before. tt }
none_traffic who (Happens (Ended one)) is = record { opens = refl; closes = refl; free = λ rules before. tt }
none_traffic who (Happens (Unread one)) is = record { opens = refl; closes = refl; free = λ rules before. tt }
none_traffic who (Happens (Unwritten one)) is = record { opens = refl; closes = refl; free = λ rules before. tt }
none_traffic who (Happens (Waited limit)) is = absurd is
none_traffic who (Happens Unwaited) is = absurd is
none_traffic who (Happens (Timed time)) is = absurd is
none_traffic who (Happens (Opened one)) is = absurd is
none_traffic who (Happens NoneOpened) is = absurd is
none_traffic who (Happens (Closed one why)) is = absurd is
none_traffic who (Handles one frame reply) is = record { opens = refl; closes = refl; free = λ rules before. tt }
none_traffic who (Settles done) is = absurd is

all_none : (who : ℕ) (more : List Step) → AllByRecursion (IsTraffic who) more → AllByRecursion IsPlain more
all_none who [] all = tt
all_none who (step ∷ more) all = (none_traffic who step all.0, all_none who more all.1)

none_opened : (more : List Step) → AllByRecursion IsPlain more → opened more ≡ []
none_opened [] all = refl
none_opened (step ∷ more) all = ap (λ (l : List ℕ). l ++ opened more) all.0.opens ∙ none_opened more all.1

none_closed : (more : List Step) → AllByRecursion IsPlain more → closed more ≡ []
none_closed [] all = refl
none_closed (step ∷ more) all = ap (λ (l : List ℕ). l ++ closed more) all.0.closes ∙ none_closed more all.1

seated_still : (seats : ℕ) (before : List Step) (step : Step) → IsPlain step → IsSeated seats before → IsSeated seats (before ++ step ∷ [])
seated_still seats before step none now =
    omega (arith, now, ap length (none_more opened_by before step none.opens), ap length (none_more closed_by before step none.closes))

each_by : (who id : ℕ) (steps more : List Step) → ((other : ℕ) → Always (IsServed other) [] steps) → AllByRecursion (IsTraffic who) more → Always (IsServed who) steps more → Always (IsServed id) [] (steps ++ more)
each_by who id steps more each own served =
    elim (eqb_tells who id) [
      | inl is ↦ always_both (IsServed id) [] steps more (each id) (subst (λ (i : ℕ). Always (IsServed i) steps more) is.1 served)
      | inr is ↦ always_both (IsServed id) [] steps more (each id) (always_elsewhere id steps more (all_elsewhere who id more own is.1) (always_end (IsServed id) [] steps (each id)))
    ]

within_by : (share who id : ℕ) (steps more : List Step) → IsWithin share id (turn_of steps) → AllByRecursion (IsTraffic who) more → IsWithin share who (turn_of (steps ++ more)) → IsWithin share id (turn_of (steps ++ more))
within_by share who id steps more within own now =
    elim (eqb_tells who id) [
      | inl is ↦ subst (λ (i : ℕ). IsWithin share i (turn_of (steps ++ more))) is.1 now
      | inr is ↦ within_elsewhere share id steps more (all_elsewhere who id more own is.1) (calm who more own) within
    ]

limited_on : (id : ℕ) (steps more : List Step) → handled id more ≡ [] → length (handled id steps) ≤ frames_bound → length (handled id (steps ++ more)) ≤ frames_bound
limited_on id steps more none few = omega (arith, few, ap length (none_gathered (handled_in id) steps more none))

limited_by : (who id : ℕ) (steps more : List Step) → AllByRecursion (IsTraffic who) more → length (handled id steps) ≤ frames_bound → length (handled who (steps ++ more)) ≤ frames_bound → length (handled id (steps ++ more)) ≤ frames_bound
limited_by who id steps more own few now =
    elim (eqb_tells who id) [
      | inl is ↦ subst (λ (i : ℕ). length (handled i (steps ++ more)) ≤ frames_bound) is.1 now
      | inr is ↦ limited_on id steps more (handled_elsewhere id more (all_elsewhere who id more own is.1)) few
    ]

pub keeps_traffic : (rules : Rules) (share count : ℕ) (open_as : ℕ → ℕ) (places who : ℕ) (steps more : List Step) → Keeps rules share count open_as places steps → 0 < open_as who → AllByRecursion (IsTraffic who) more
    → Always (IsServed who) steps more → IsWithin share who (turn_of (steps ++ more)) → length (handled who (steps ++ more)) ≤ frames_bound → Keeps rules share count open_as places (steps ++ more)
keeps_traffic rules share count open_as places who steps more keeps there own served within limited =
    let none = all_none who more own in
    record {
      apart = keeps.apart;
      below = keeps.below;
      gone = λ id is_below no. left_more rules.idle id steps more (keeps.gone id is_below no)
          (others_traffic who id more own (λ e. let same : open_as who ≡ open_as id = ap open_as e in absurd (omega (arith, there, no, same))));
      all = λ id is_below. happened_then (Opened id) steps more (keeps.all id is_below);
      stays = λ id why some there. elim (happened_either (Closed id why) steps more there) [ inl old ↦ keeps.stays id why some old | inr new ↦ traffic_open who id why more own new ];
      others = λ id above. let less : who < count = keeps.below who there in
          all_both (IsOfOther id) steps more (keeps.others id above) (others_traffic who id more own (λ e. absurd (omega (arith, less, above, e))));
      each = λ id. each_by who id steps more keeps.each own served;
      seated = always_both (IsSeated rules.seats) [] steps more keeps.seated (always_kept (IsSeated rules.seats) IsPlain (seated_still rules.seats) steps more none (always_end (IsSeated rules.seats) [] steps keeps.seated));
      taken = omega (arith, keeps.taken, ap length (none_gathered opened_by steps more (none_opened more none)), ap length (none_gathered closed_by steps more (none_closed more none)));
      numbered = none_gathered opened_by steps more (none_opened more none) ∙ keeps.numbered;
      fair = each_both (IsFair rules) [] steps more keeps.fair (each_free (IsFair rules) IsPlain (λ before step no. no.free rules before) steps more none);
      within = λ id. within_by share who id steps more (keeps.within id) own within;
      wanted = keeps.wanted;
      limited = λ id. limited_by who id steps more own (keeps.limited id) limited;
    }

-- the same, in another form
pub keeps_as : (rules : Rules) (share count : ℕ) (open_as also : ℕ → ℕ) (places other : ℕ) (steps : List Step) → ((id : ℕ) → open_as id ≡ also id) → places ≡ other → Keeps rules share count open_as places steps → Keeps rules share count also other steps
keeps_as rules share count open_as also places other steps same is keeps = record {
  apart = λ id. omega (arith, keeps.apart id, same id);
  below = λ id some. keeps.below id (omega (arith, same id, some));
  gone = λ id is_below none. keeps.gone id is_below (omega (arith, same id, none));
  all = keeps.all;
  stays = λ id why some. keeps.stays id why (omega (arith, same id, some));
  others = keeps.others;
  each = keeps.each;
  seated = keeps.seated;
  taken = omega (arith, keeps.taken, is);
  numbered = keeps.numbered;
  fair = keeps.fair;
  within = keeps.within;
  wanted = keeps.wanted;
  limited = keeps.limited;
}

-- with a larger share
pub keeps_more : (rules : Rules) (share also count : ℕ) (open_as : ℕ → ℕ) (places : ℕ) (steps : List Step) → share ≤ also → Keeps rules share count open_as places steps → Keeps rules also count open_as places steps
keeps_more rules share also count open_as places steps more keeps = record {
  apart = keeps.apart;
  below = keeps.below;
  gone = keeps.gone;
  all = keeps.all;
  stays = keeps.stays;
  others = keeps.others;
  each = keeps.each;
  seated = keeps.seated;
  taken = keeps.taken;
  numbered = keeps.numbered;
  fair = keeps.fair;
  within = λ id. record { frames = omega (arith, more, (keeps.within id).frames); bytes = omega (arith, more, (keeps.within id).bytes) };
  wanted = keeps.wanted;
  limited = keeps.limited;
}

-- ---- a step of no connection

pub record IsNobody (step : Step) : Type 0 where
  pub away : (id : ℕ) → (bytes_read id step ≡ []) × (bytes_written id step ≡ []) × (handled_in id step ≡ [])
  pub of_none : (id : ℕ) → IsOf id step → ⊥
  pub opens : opened_by step ≡ []
  pub closes : closed_by step ≡ []

pub keeps_nobody : (rules : Rules) (share also count : ℕ) (open_as : ℕ → ℕ) (places : ℕ) (steps : List Step) (step : Step) → Keeps rules share count open_as places steps → IsNobody step → IsFair rules steps step
    → ((id : ℕ) → IsWithin also id (turn_of (steps ++ step ∷ []))) → Keeps rules also count open_as places (steps ++ step ∷ [])
keeps_nobody rules share also count open_as places steps step keeps nobody fair within =
    let seated : IsSeated rules.seats (steps ++ step ∷ []) =
    let now : IsSeated rules.seats steps = always_end (IsSeated rules.seats) [] steps keeps.seated in
    omega (arith, now, ap length (none_more opened_by steps step nobody.opens), ap length (none_more closed_by steps step nobody.closes)) in
    record {
      apart = keeps.apart;
      below = keeps.below;
      gone = λ id is_below no. left_more rules.idle id steps (step ∷ []) (keeps.gone id is_below no) (nobody.of_none id, tt);
      all = λ id is_below. happened_then (Opened id) steps (step ∷ []) (keeps.all id is_below);
      stays = λ id why some there. elim (happened_either (Closed id why) steps (step ∷ []) there) [ inl old ↦ keeps.stays id why some old | inr new ↦ others_open id why (step ∷ []) (nobody.of_none id, tt) new ];
      others = λ id above. all_both (IsOfOther id) steps (step ∷ []) (keeps.others id above) (nobody.of_none id, tt);
      each = λ id. always_both (IsServed id) [] steps (step ∷ []) (keeps.each id)
          (always_one (IsServed id) steps step (always_end (IsServed id) [] steps (keeps.each id)) (served_quiet id steps step (nobody.away id).0 (nobody.away id).1 (nobody.away id).2 (always_end (IsServed id) [] steps (keeps.each id))));
      seated = always_both (IsSeated rules.seats) [] steps (step ∷ []) keeps.seated (always_one (IsSeated rules.seats) steps step (always_end (IsSeated rules.seats) [] steps keeps.seated) seated);
      taken = omega (arith, keeps.taken, ap length (none_more opened_by steps step nobody.opens), ap length (none_more closed_by steps step nobody.closes));
      numbered = none_more opened_by steps step nobody.opens ∙ keeps.numbered;
      fair = each_both (IsFair rules) [] steps (step ∷ []) keeps.fair (fair, tt);
      within = within;
      wanted = keeps.wanted;
      limited = λ id. limited_on id steps (step ∷ []) (ap (λ (l : List (Frame × Reply)). l ++ []) (nobody.away id).2) (keeps.limited id);
    }

nobody_timed : (time : ℕ) → IsNobody (Happens (Timed time))
nobody_timed time = record { away = λ id. (refl, refl, refl); of_none = λ id own. own; opens = refl; closes = refl }

nobody_none : IsNobody (Happens NoneOpened)
nobody_none = record { away = λ id. (refl, refl, refl); of_none = λ id own. own; opens = refl; closes = refl }

nobody_unwaited : IsNobody (Happens Unwaited)
nobody_unwaited = record { away = λ id. (refl, refl, refl); of_none = λ id own. own; opens = refl; closes = refl }

nobody_settled : (done : Bool) → IsNobody (Settles done)
nobody_settled done = record { away = λ id. (refl, refl, refl); of_none = λ id own. own; opens = refl; closes = refl }

nobody_waited : (limit : ℕ) → IsNobody (Happens (Waited limit))
nobody_waited limit = record { away = λ id. (refl, refl, refl); of_none = λ id own. own; opens = refl; closes = refl }

-- a step that ends no turn, and in which nothing is read or handled
within_quiet : (share id : ℕ) (steps : List Step) (step : Step) → turn_of (steps ++ step ∷ []) ≡ turn_of steps ++ step ∷ [] → bytes_read id step ≡ [] → handled_in id step ≡ [] → IsWithin share id (turn_of steps) → IsWithin share id (turn_of (steps ++ step ∷ []))
within_quiet share id steps step turn no_bytes no_frame within =
    let same_frames : handled id (turn_of (steps ++ step ∷ [])) ≡ handled id (turn_of steps) = ap (handled id) turn ∙ none_more (handled_in id) (turn_of steps) step no_frame in
    let same_bytes : came id (turn_of (steps ++ step ∷ [])) ≡ came id (turn_of steps) = ap (came id) turn ∙ none_more (bytes_read id) (turn_of steps) step no_bytes in
    record { frames = omega (arith, ap length same_frames, within.frames); bytes = omega (arith, ap length same_bytes, within.bytes) }

pub within_none : (share id : ℕ) → IsWithin share id []
within_none share id = record { frames = omega arith; bytes = omega arith }

goes_on_turn : (steps : List Step) (step : Step) → ((turn : List Step) → turn_behind turn step ≡ turn ++ step ∷ []) → turn_of (steps ++ step ∷ []) ≡ turn_of steps ++ step ∷ []
goes_on_turn steps step one = fold-append turn_behind [] steps (step ∷ []) ∙ one (turn_of steps)

pub keeps_timed : (rules : Rules) (share count : ℕ) (open_as : ℕ → ℕ) (places time : ℕ) (steps : List Step) → Keeps rules share count open_as places steps → Keeps rules share count open_as places (steps ++ Happens (Timed time) ∷ [])
keeps_timed rules share count open_as places time steps keeps =
    keeps_nobody rules share share count open_as places steps (Happens (Timed time)) keeps (nobody_timed time) tt (λ id. within_quiet share id steps (Happens (Timed time)) (goes_on_turn steps (Happens (Timed time)) (λ turn. refl)) refl refl (keeps.within id))

pub keeps_none : (rules : Rules) (share count : ℕ) (open_as : ℕ → ℕ) (places : ℕ) (steps : List Step) → Keeps rules share count open_as places steps → Keeps rules share count open_as places (steps ++ Happens NoneOpened ∷ [])
keeps_none rules share count open_as places steps keeps =
    keeps_nobody rules share share count open_as places steps (Happens NoneOpened) keeps nobody_none tt (λ id. within_quiet share id steps (Happens NoneOpened) (goes_on_turn steps (Happens NoneOpened) (λ turn. refl)) refl refl (keeps.within id))

pub keeps_unwaited : (rules : Rules) (share count : ℕ) (open_as : ℕ → ℕ) (places : ℕ) (steps : List Step) → Keeps rules share count open_as places steps → Keeps rules share count open_as places (steps ++ Happens Unwaited ∷ [])
keeps_unwaited rules share count open_as places steps keeps =
    keeps_nobody rules share share count open_as places steps (Happens Unwaited) keeps nobody_unwaited tt (λ id. within_quiet share id steps (Happens Unwaited) (goes_on_turn steps (Happens Unwaited) (λ turn. refl)) refl refl (keeps.within id))

pub keeps_settled : (rules : Rules) (share count : ℕ) (open_as : ℕ → ℕ) (places : ℕ) (done : Bool) (steps : List Step) → Keeps rules share count open_as places steps → Keeps rules share count open_as places (steps ++ Settles done ∷ [])
keeps_settled rules share count open_as places done steps keeps =
    keeps_nobody rules share share count open_as places steps (Settles done) keeps (nobody_settled done) tt (λ id. within_quiet share id steps (Settles done) (goes_on_turn steps (Settles done) (λ turn. refl)) refl refl (keeps.within id))

-- a turn begins, with any share
pub keeps_waited : (rules : Rules) (share also count : ℕ) (open_as : ℕ → ℕ) (places limit : ℕ) (steps : List Step) → Keeps rules share count open_as places steps → IsFair rules steps (Happens (Waited limit)) → Keeps rules also count open_as places (steps ++ Happens (Waited limit) ∷ [])
keeps_waited rules share also count open_as places limit steps keeps fair =
    keeps_nobody rules share also count open_as places steps (Happens (Waited limit)) keeps (nobody_waited limit) fair (λ id. subst (IsWithin also id) (sym (turn_waited steps limit)) (within_none also id))

-- ---- one more, one less

pub keeps_opened : (rules : Rules) (share count : ℕ) (open_as open_now : ℕ → ℕ) (places : ℕ) (steps : List Step) → Keeps rules share count open_as places steps → places < rules.seats → ((total : ℕ) → rules.total ≡ Some total → count < total)
    → ((id : ℕ) → open_now id ≡ open_as id + one_at count id) → Keeps rules share (count + 1) open_now (places + 1) (steps ++ Happens (Opened count) ∷ [])
keeps_opened rules share count open_as open_now places steps keeps seats wanted is =
    let step : Step = Happens (Opened count) in
    let none_yet : open_as count ≡ 0 = elim (cases_zero (open_as count)) [ inl none ↦ none | inr some ↦ absurd (lt_self count (keeps.below count some)) ] in
    let opened_is : length (opened (steps ++ step ∷ [])) ≡ length (opened steps) + 1 = omega (arith, ap length (one_more opened_by steps step), length-append (opened steps) (count ∷ [])) in
    let closed_is : length (closed (steps ++ step ∷ [])) ≡ length (closed steps) = ap length (none_more closed_by steps step refl) in
    let seated : IsSeated rules.seats (steps ++ step ∷ []) = omega (arith, opened_is, closed_is, keeps.taken, seats) in
    record {
      apart = λ id. elim (eqb_tells count id) [
        | inl same ↦ let here : open_as id ≡ 0 = ap open_as (sym same.1) ∙ none_yet in omega (arith, is id, here, one_small count id)
        | inr other ↦ omega (arith, is id, keeps.apart id, one_other count id other.1)
      ];
      below = λ id some. elim (eqb_tells count id) [
        | inl same ↦ omega (arith, same.1)
        | inr other ↦ let old : id < count = keeps.below id (omega (arith, is id, some, one_other count id other.1)) in omega (arith, old)
      ];
      gone = λ id is_below none. elim (eqb_tells count id) [
        | inl same ↦ let here : one_at count id ≡ 1 = subst (λ (i : ℕ). one_at count i ≡ 1) same.1 (one_here count) in absurd (omega (arith, is id, none, here))
        | inr other ↦ left_more rules.idle id steps (step ∷ []) (keeps.gone id (strictly_below count id is_below other.1) (omega (arith, is id, none))) (other.1, tt)
      ];
      all = λ id is_below. elim (eqb_tells count id) [
        | inl same ↦ subst (λ (i : ℕ). Happened (Opened i) (steps ++ step ∷ [])) same.1 (happened_here (Opened count) steps)
        | inr other ↦ happened_then (Opened id) steps (step ∷ []) (keeps.all id (strictly_below count id is_below other.1))
      ];
      stays = λ id why some there. elim (happened_either (Closed id why) steps (step ∷ []) there) [
        | inl old ↦ elim (eqb_tells count id) [
          | inl same ↦ others_open id why steps (keeps.others id (omega (arith, same.1))) old
          | inr other ↦ keeps.stays id why (omega (arith, is id, some, one_other count id other.1)) old
        ]
        | inr new ↦ opening_open count id why new
      ];
      others = λ id above. all_both (IsOfOther id) steps (step ∷ []) (keeps.others id (omega (arith, above))) ((λ e. absurd (omega (arith, above, e))), tt);
      each = λ id. always_both (IsServed id) [] steps (step ∷ []) (keeps.each id)
          (always_one (IsServed id) steps step (always_end (IsServed id) [] steps (keeps.each id)) (served_quiet id steps step refl refl refl (always_end (IsServed id) [] steps (keeps.each id))));
      seated = always_both (IsSeated rules.seats) [] steps (step ∷ []) keeps.seated (always_one (IsSeated rules.seats) steps step (always_end (IsSeated rules.seats) [] steps keeps.seated) seated);
      taken = omega (arith, opened_is, closed_is, keeps.taken);
      numbered = one_more opened_by steps step ∙ (ap (λ (l : List ℕ). l ++ count ∷ []) keeps.numbered ∙ sym (numbers_more count));
      fair = each_both (IsFair rules) [] steps (step ∷ []) keeps.fair (tt, tt);
      within = λ id. within_quiet share id steps step (goes_on_turn steps step (λ turn. refl)) refl refl (keeps.within id);
      wanted = λ total reached. let less : count < total = wanted total reached in omega (arith, less);
      limited = λ id. limited_on id steps (step ∷ []) refl (keeps.limited id);
    }

-- ---- what a closed connection leaves
pub record Leaves (idle who : ℕ) (why : Departure) (steps : List Step) : Type 0 where
  pub held : List ℕ
  pub queued : List ℕ
  pub serves : Serves who steps held queued
  pub explained : Explains idle who steps held queued why

-- none is open twice
still_open : (who id one now : ℕ) → who ≡ id → one ≡ now + one_at who id → one ≤ 1 → 0 < now → ⊥
still_open who id one now e is apart some = let here : one_at who id ≡ 1 = subst (λ (i : ℕ). one_at who i ≡ 1) e (one_here who) in absurd (omega (arith, is, apart, some, here))

pub keeps_closed : (rules : Rules) (share count : ℕ) (open_as open_now : ℕ → ℕ) (places places_now who : ℕ) (why : Departure) (steps : List Step) → Keeps rules share count open_as places steps → Leaves rules.idle who why steps
    → ((id : ℕ) → open_as id ≡ open_now id + one_at who id) → places ≡ places_now + 1 → Keeps rules share count open_now places_now (steps ++ Happens (Closed who why) ∷ [])
keeps_closed rules share count open_as open_now places places_now who why steps keeps leaves is size =
    let step : Step = Happens (Closed who why) in
    let less : who < count = keeps.below who (omega (arith, is who, one_here who)) in
    let was_open : IsOpenAfter who steps = record { was_opened = keeps.all who less; stays = λ reason there. keeps.stays who reason (omega (arith, is who, one_here who)) there } in
    let opened_is : length (opened (steps ++ step ∷ [])) ≡ length (opened steps) = ap length (none_more opened_by steps step refl) in
    let closed_is : length (closed (steps ++ step ∷ [])) ≡ length (closed steps) + 1 = omega (arith, ap length (one_more closed_by steps step), length-append (closed steps) (who ∷ [])) in
    let seated : IsSeated rules.seats (steps ++ step ∷ []) =
    let now : IsSeated rules.seats steps = always_end (IsSeated rules.seats) [] steps keeps.seated in
    omega (arith, opened_is, closed_is, now) in
    record {
      apart = λ id. omega (arith, is id, keeps.apart id);
      below = λ id some. keeps.below id (omega (arith, is id, some));
      gone = λ id is_below none. elim (eqb_tells who id) [
        | inl same ↦ subst (λ (i : ℕ). HasLeft rules.idle i (steps ++ step ∷ [])) same.1
            (record { why = why; before = steps; later = []; parts = refl; was_open = was_open; nothing_later = tt; held = leaves.held; queued = leaves.queued; serves = leaves.serves; explained = leaves.explained })
        | inr other ↦ left_more rules.idle id steps (step ∷ []) (keeps.gone id is_below (omega (arith, is id, none, one_other who id other.1))) (other.1, tt)
      ];
      all = λ id is_below. happened_then (Opened id) steps (step ∷ []) (keeps.all id is_below);
      stays = λ id reason some there. elim (happened_either (Closed id reason) steps (step ∷ []) there) [
        | inl old ↦ keeps.stays id reason (omega (arith, is id, some)) old
        | inr new ↦ others_open id reason (step ∷ []) ((λ e. still_open who id (open_as id) (open_now id) e (is id) (keeps.apart id) some), tt) new
      ];
      others = λ id above. all_both (IsOfOther id) steps (step ∷ []) (keeps.others id above) ((λ e. absurd (omega (arith, less, above, e))), tt);
      each = λ id. always_both (IsServed id) [] steps (step ∷ []) (keeps.each id)
          (always_one (IsServed id) steps step (always_end (IsServed id) [] steps (keeps.each id)) (served_quiet id steps step refl refl refl (always_end (IsServed id) [] steps (keeps.each id))));
      seated = always_both (IsSeated rules.seats) [] steps (step ∷ []) keeps.seated (always_one (IsSeated rules.seats) steps step (always_end (IsSeated rules.seats) [] steps keeps.seated) seated);
      taken = omega (arith, opened_is, closed_is, keeps.taken, size);
      numbered = none_more opened_by steps step refl ∙ keeps.numbered;
      fair = each_both (IsFair rules) [] steps (step ∷ []) keeps.fair (tt, tt);
      within = λ id. within_quiet share id steps step (goes_on_turn steps step (λ turn. refl)) refl refl (keeps.within id);
      wanted = keeps.wanted;
      limited = λ id. limited_on id steps (step ∷ []) refl (keeps.limited id);
    }

-- at first no connection is open
pub keeps_start : (rules : Rules) (share : ℕ) → Keeps rules share 0 (λ id. 0) 0 []
keeps_start rules share = record {
  apart = λ id. omega arith;
  below = λ id some. absurd (omega (arith, some));
  gone = λ id is_below none. absurd (omega (arith, is_below));
  all = λ id is_below. absurd (omega (arith, is_below));
  stays = λ id why some there. there;
  others = λ id above. tt;
  each = λ id. record { held = []; queued = []; serves = record { readable = tt; spelled = tt; read = refl; written = refl; few = omega arith; short = omega arith } };
  seated = omega arith;
  taken = refl;
  numbered = refl;
  fair = tt;
  within = λ id. within_none share id;
  wanted = λ total reached. omega arith;
  limited = λ id. let few : 0 ≤ frames_bound = omega arith in few;
}
