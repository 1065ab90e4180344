-- What steps gather of a connection: its own, and those of others.
use Rattle.std.proofs.Common.{◌≡◌, ℕ, Bool, true, false, cond, eqb, List, [], ◌∷◌, ◌++◌, fold, refl, sym, ap, ◌∙◌, append_assoc}
use Rattle.std.specs.List.{AllByRecursion, flat_map}
use Rattle.std.proofs.lemmas.Bool.{eq-eqb, ne_eqb}
use Rattle.std.proofs.lemmas.List.{append-nil}
use Rattle.std.proofs.lemmas.List.Sums.{fold-append}
use Rattle.droid_frame.specs.declared.frame.Frame.{Frame}
use Rattle.droid_frame.specs.declared.reply.Reply.{Reply}
use Rattle.droid_turns.specs.Events.{Opened, NoneOpened, Read, Ended, Unread, Wrote, Unwritten, Closed, Timed, Waited, Unwaited}
use Rattle.droid_turns.specs.Halls.{IsCalm}
use Rattle.droid_turns.specs.Steps.{Handles, Happens, IsTraffic, Settles, Step, Times, bytes_read, bytes_written, came, clock_behind, clock_of, handled, handled_in, moves, times_behind, times_of, turn_behind, turn_of, went}
use Rattle.droid_turns.specs.declared.departure.Departure.{Departure}

-- what is gathered of steps is what is gathered of the first and of the others
pub gathered : {A : Type 0} (f : Step → List A) (first later : List Step) → flat_map f (first ++ later) ≡ flat_map f first ++ flat_map f later
gathered {A} f [] later = refl
gathered {A} f (step ∷ first) later = ap (λ (l : List A). f step ++ l) (gathered f first later) ∙ sym (append_assoc (f step) (flat_map f first) (flat_map f later))

-- and of one step more
pub one_more : {A : Type 0} (f : Step → List A) (steps : List Step) (step : Step) → flat_map f (steps ++ step ∷ []) ≡ flat_map f steps ++ f step
one_more {A} f steps step = gathered f steps (step ∷ []) ∙ ap (λ (l : List A). flat_map f steps ++ l) (append-nil (f step))

-- of a step of which nothing is gathered
pub none_more : {A : Type 0} (f : Step → List A) (steps : List Step) (step : Step) → f step ≡ [] → flat_map f (steps ++ step ∷ []) ≡ flat_map f steps
none_more {A} f steps step none = one_more f steps step ∙ (ap (λ (l : List A). flat_map f steps ++ l) none ∙ append-nil (flat_map f steps))

-- ---- a step of this connection

same_id : (id : ℕ) → eqb id id ≡ true
same_id id = eq-eqb id id refl

pub read_here : (id : ℕ) (bytes : List ℕ) → bytes_read id (Happens (Read id bytes)) ≡ bytes
read_here id bytes = ap (λ (b : Bool). cond b bytes []) (same_id id)

pub written_here : (id : ℕ) (bytes : List ℕ) → bytes_written id (Happens (Wrote id bytes)) ≡ bytes
written_here id bytes = ap (λ (b : Bool). cond b bytes []) (same_id id)

pub handled_here : (id : ℕ) (frame : Frame) (reply : Reply) → handled_in id (Handles id frame reply) ≡ (frame, reply) ∷ []
handled_here id frame reply = ap (λ (b : Bool). cond b ((frame, reply) ∷ []) []) (same_id id)

-- ---- time

pub times_one : (id : ℕ) (steps : List Step) (step : Step) (times : Times) → times_of id steps ≡ times → times_of id (steps ++ step ∷ []) ≡ times_behind id times step
times_one id steps step times is = fold-append (times_behind id) (record { now = 0; active = 0 }) steps (step ∷ []) ∙ ap (λ (t : Times). times_behind id t step) is

pub times_read : (id : ℕ) (times : Times) (bytes : List ℕ) → times_behind id times (Happens (Read id bytes)) ≡ moves times bytes
times_read id times bytes = ap (λ (b : Bool). cond b (moves times bytes) times) (same_id id)

pub times_wrote : (id : ℕ) (times : Times) (bytes : List ℕ) → times_behind id times (Happens (Wrote id bytes)) ≡ moves times bytes
times_wrote id times bytes = ap (λ (b : Bool). cond b (moves times bytes) times) (same_id id)

-- it moved when the clock said this
abbrev pub at_once : ℕ → Times
at_once now = record { now = now; active = now }

pub times_opened : (id : ℕ) (times : Times) → times_behind id times (Happens (Opened id)) ≡ record { now = times.now; active = times.now }
times_opened id times = ap (λ (b : Bool). cond b (record { now = times.now; active = times.now }) times) (same_id id)

-- ---- a step of another connection, or of none

-- nothing of it is gathered
pub record Elsewhere (id : ℕ) (step : Step) : Type 0 where
  pub reads : bytes_read id step ≡ []
  pub writes : bytes_written id step ≡ []
  pub handles : handled_in id step ≡ []
  pub times : (times : Times) → times_behind id times step ≡ times

pub traffic_elsewhere : (who id : ℕ) (step : Step) → IsTraffic who step → (who ≡ id → ⊥) → Elsewhere id step
traffic_elsewhere who id (Happens (Read one bytes)) is other =
    let no : eqb one id ≡ false = ne_eqb one id (λ e. other (sym is ∙ e)) in
    record { reads = ap (λ (b : Bool). cond b bytes []) no; writes = refl; handles = refl; times = λ times. ap (λ (b : Bool). cond b (moves times bytes) times) no }
traffic_elsewhere who id (Happens (Wrote one bytes)) is other =
    let no : eqb one id ≡ false = ne_eqb one id (λ e. other (sym is ∙ e)) in
    record { reads = refl; writes = ap (λ (b : Bool). cond b bytes []) no; handles = refl; times = λ times. ap (λ (b : Bool). cond b (moves times bytes) times) no }
traffic_elsewhere who id (Happens (Ended one)) is other = record { reads = refl; writes = refl; handles = refl; times = λ times. refl }
traffic_elsewhere who id (Happens (Unread one)) is other = record { reads = refl; writes = refl; handles = refl; times = λ times. refl }
traffic_elsewhere who id (Happens (Unwritten one)) is other = record { reads = refl; writes = refl; handles = refl; times = λ times. refl }
traffic_elsewhere who id (Happens (Waited limit)) is other = absurd is
traffic_elsewhere who id (Happens Unwaited) is other = absurd is
traffic_elsewhere who id (Happens (Timed time)) is other = absurd is
traffic_elsewhere who id (Happens (Opened one)) is other = absurd is
traffic_elsewhere who id (Happens NoneOpened) is other = absurd is
traffic_elsewhere who id (Happens (Closed one why)) is other = absurd is
traffic_elsewhere who id (Handles one frame reply) is other =
    let no : eqb one id ≡ false = ne_eqb one id (λ e. other (sym is ∙ e)) in
    record { reads = refl; writes = refl; handles = ap (λ (b : Bool). cond b ((frame, reply) ∷ []) []) no; times = λ times. refl }
traffic_elsewhere who id (Settles done) is other = absurd is

pub opened_elsewhere : (who id : ℕ) → (who ≡ id → ⊥) → Elsewhere id (Happens (Opened who))
opened_elsewhere who id other = record {
  reads = refl;
  writes = refl;
  handles = refl;
  times = λ times. ap (λ (b : Bool). cond b (record { now = times.now; active = times.now }) times) (ne_eqb who id other);
}

pub closed_elsewhere : (who : ℕ) (why : Departure) (id : ℕ) → Elsewhere id (Happens (Closed who why))
closed_elsewhere who why id = record { reads = refl; writes = refl; handles = refl; times = λ times. refl }

pub none_elsewhere : (id : ℕ) → Elsewhere id (Happens NoneOpened)
none_elsewhere id = record { reads = refl; writes = refl; handles = refl; times = λ times. refl }

pub settling_elsewhere : (id : ℕ) (done : Bool) → Elsewhere id (Settles done)
settling_elsewhere id done = record { reads = refl; writes = refl; handles = refl; times = λ times. refl }

-- ---- and many of them

pub came_elsewhere : (id : ℕ) (more : List Step) → AllByRecursion (Elsewhere id) more → came id more ≡ []
came_elsewhere id [] all = refl
came_elsewhere id (step ∷ more) all = ap (λ (l : List ℕ). l ++ came id more) all.0.reads ∙ came_elsewhere id more all.1

pub went_elsewhere : (id : ℕ) (more : List Step) → AllByRecursion (Elsewhere id) more → went id more ≡ []
went_elsewhere id [] all = refl
went_elsewhere id (step ∷ more) all = ap (λ (l : List ℕ). l ++ went id more) all.0.writes ∙ went_elsewhere id more all.1

pub handled_elsewhere : (id : ℕ) (more : List Step) → AllByRecursion (Elsewhere id) more → handled id more ≡ []
handled_elsewhere id [] all = refl
handled_elsewhere id (step ∷ more) all = ap (λ (l : List (Frame × Reply)). l ++ handled id more) all.0.handles ∙ handled_elsewhere id more all.1

times_go : (id : ℕ) (times : Times) (more : List Step) → AllByRecursion (Elsewhere id) more → fold (times_behind id) times more ≡ times
times_go id times [] all = refl
times_go id times (step ∷ more) all = ap (λ (t : Times). fold (times_behind id) t more) (all.0.times times) ∙ times_go id times more all.1

pub times_elsewhere : (id : ℕ) (steps more : List Step) → AllByRecursion (Elsewhere id) more → times_of id (steps ++ more) ≡ times_of id steps
times_elsewhere id steps more all = fold-append (times_behind id) (record { now = 0; active = 0 }) steps more ∙ times_go id (times_of id steps) more all

-- what is gathered of all steps is what was gathered
pub none_gathered : {A : Type 0} (f : Step → List A) (steps more : List Step) → flat_map f more ≡ [] → flat_map f (steps ++ more) ≡ flat_map f steps
none_gathered {A} f steps more none = gathered f steps more ∙ (ap (λ (l : List A). flat_map f steps ++ l) none ∙ append-nil (flat_map f steps))

-- ---- turns and the clock

turn_go : (turn more : List Step) → AllByRecursion IsCalm more → fold turn_behind turn more ≡ turn ++ more
turn_go turn [] all = sym (append-nil turn)
turn_go turn (step ∷ more) all = ap (λ (t : List Step). fold turn_behind t more) (all.0.turn turn) ∙ (turn_go (turn ++ step ∷ []) more all.1 ∙ append_assoc turn (step ∷ []) more)

pub turn_more : (steps more : List Step) → AllByRecursion IsCalm more → turn_of (steps ++ more) ≡ turn_of steps ++ more
turn_more steps more all = fold-append turn_behind [] steps more ∙ turn_go (turn_of steps) more all

pub turn_waited : (steps : List Step) (limit : ℕ) → turn_of (steps ++ Happens (Waited limit) ∷ []) ≡ []
turn_waited steps limit = fold-append turn_behind [] steps (Happens (Waited limit) ∷ [])

clock_go : (now : ℕ) (more : List Step) → AllByRecursion IsCalm more → fold clock_behind now more ≡ now
clock_go now [] all = refl
clock_go now (step ∷ more) all = ap (λ (n : ℕ). fold clock_behind n more) (all.0.clock now) ∙ clock_go now more all.1

pub clock_more : (steps more : List Step) → AllByRecursion IsCalm more → clock_of (steps ++ more) ≡ clock_of steps
clock_more steps more all = fold-append clock_behind 0 steps more ∙ clock_go (clock_of steps) more all

pub clock_timed : (steps : List Step) (time : ℕ) → clock_of (steps ++ Happens (Timed time) ∷ []) ≡ time
clock_timed steps time = fold-append clock_behind 0 steps (Happens (Timed time) ∷ [])

moves_now : (times : Times) (bytes : List ℕ) → (moves times bytes).now ≡ times.now
moves_now times [] = refl
moves_now times (byte ∷ bytes) = refl

now_if : (b : Bool) (one other : Times) (now : ℕ) → one.now ≡ now → other.now ≡ now → (cond b one other).now ≡ now
now_if true one other now is too = is
now_if false one other now is too = too

now_behind : (id : ℕ) (times : Times) (step : Step) → (times_behind id times step).now ≡ clock_behind times.now step
now_behind id times (Happens (Read who bytes)) = now_if (eqb who id) (moves times bytes) times times.now (moves_now times bytes) refl
now_behind id times (Happens (Wrote who bytes)) = now_if (eqb who id) (moves times bytes) times times.now (moves_now times bytes) refl
now_behind id times (Happens (Opened who)) = now_if (eqb who id) (record { now = times.now; active = times.now }) times times.now refl refl
now_behind id times (Happens (Timed time)) = refl
now_behind id times (Happens (Waited limit)) = refl
now_behind id times (Happens Unwaited) = refl
now_behind id times (Happens NoneOpened) = refl
now_behind id times (Happens (Ended who)) = refl
now_behind id times (Happens (Unread who)) = refl
now_behind id times (Happens (Unwritten who)) = refl
now_behind id times (Happens (Closed who why)) = refl
now_behind id times (Handles who frame reply) = refl
now_behind id times (Settles done) = refl

now_go : (id : ℕ) (times : Times) (now : ℕ) (steps : List Step) → times.now ≡ now → (fold (times_behind id) times steps).now ≡ fold clock_behind now steps
now_go id times now [] is = is
now_go id times now (step ∷ steps) is = now_go id (times_behind id times step) (clock_behind now step) steps (now_behind id times step ∙ ap (λ (n : ℕ). clock_behind n step) is)

-- the clock is the same for all connections
pub times_now : (id : ℕ) (steps : List Step) → (times_of id steps).now ≡ clock_of steps
times_now id steps = now_go id (record { now = 0; active = 0 }) 0 steps refl

calm_traffic : (id : ℕ) (step : Step) → IsTraffic id step → IsCalm step
calm_traffic id (Happens (Read one bytes)) is = record { turn = λ turn. refl; clock = λ now. refl }
calm_traffic id (Happens (Wrote one bytes)) is = record { turn = λ turn. refl; clock = λ now. refl }
calm_traffic id (Happens (Ended one)) is = record { turn = λ turn. refl; clock = λ now. refl }
calm_traffic id (Happens (Unread one)) is = record { turn = λ turn. refl; clock = λ now. refl }
calm_traffic id (Happens (Unwritten one)) is = record { turn = λ turn. refl; clock = λ now. refl }
calm_traffic id (Happens (Waited limit)) is = absurd is
calm_traffic id (Happens Unwaited) is = absurd is
calm_traffic id (Happens (Timed time)) is = absurd is
calm_traffic id (Happens (Opened one)) is = absurd is
calm_traffic id (Happens NoneOpened) is = absurd is
calm_traffic id (Happens (Closed one why)) is = absurd is
calm_traffic id (Handles one frame reply) is = record { turn = λ turn. refl; clock = λ now. refl }
calm_traffic id (Settles done) is = absurd is

pub calm : (id : ℕ) (more : List Step) → AllByRecursion (IsTraffic id) more → AllByRecursion IsCalm more
calm id [] all = tt
calm id (step ∷ more) all = (calm_traffic id step all.0, calm id more all.1)

-- ---- of others

pub all_elsewhere : (who id : ℕ) (more : List Step) → AllByRecursion (IsTraffic who) more → (who ≡ id → ⊥) → AllByRecursion (Elsewhere id) more
all_elsewhere who id [] all other = tt
all_elsewhere who id (step ∷ more) all other = (traffic_elsewhere who id step all.0 other, all_elsewhere who id more all.1 other)
