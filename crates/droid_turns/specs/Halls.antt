-- For inner clauses and proofs: what the loop keeps of all connections, after the steps so far.
use Rattle.std.specs.Prelude.{◌≡◌, ℕ, ◌+◌, ◌-◌, ◌*◌, ◌<◌, ◌≤◌, ◌==◌, if◌then◌else◌, Bool, true, false, List, []}
use Rattle.std.specs.Prelude.{◌∷◌, ◌++◌, Some, IsSome, count_by, length, vec_capacity}
use Rattle.std.specs.List.{AllByRecursion}
use Rattle.droid_turns.specs.Departures.{IsServed, IsStopped, frames_bound}
use Rattle.droid_turns.specs.Events.{Closed, Opened, Waited}
use Rattle.droid_turns.specs.Peers.{InTurn, IsHearing, IsQuiet, IsWhole, RanDry, Rests, Stands, has_bytes, is_hungry}
use Rattle.droid_turns.specs.Peers.{kept_of}
use Rattle.droid_turns.specs.Turns.{HasAdmitted, HasBegun, HasLeft, IsFair, IsSeated, IsSettled, IsShare, WasFull}
use Rattle.droid_turns.specs.Steps.{Always, AreOfOthers, AtEach, FailedToSettle, Handles, Happened, Happens, Settles}
use Rattle.droid_turns.specs.Steps.{Step, came, clock_behind, clock_of, closed, handled, numbers, opened, turn_behind}
use Rattle.droid_turns.specs.Steps.{turn_of}
use Rattle.droid_turns.specs.declared.departure.Departure.{Departure}
use Rattle.droid_turns.specs.declared.departure.Departure.TheVariants as departures
use Rattle.droid_turns.specs.declared.hall.Hall.{Hall}
use Rattle.droid_turns.specs.declared.peer.Peer.{Peer}
use Rattle.droid_turns.specs.declared.rules.Rules.{Rules}

-- ---- which are open

-- 1 if this is the number, otherwise 0
unfoldable pub one_at : ℕ → ℕ → ℕ
one_at who id = if who == id then 1 else 0

-- how many of them have this number
abbrev pub times_in : ℕ → List Peer → ℕ
times_in id [] = 0
times_in id (peer ∷ peers) = one_at peer.id id + times_in id peers

-- in both lists
abbrev pub times_among : List Peer → List Peer → ℕ → ℕ
times_among waiting served id = times_in id waiting + times_in id served

-- ---- which have bytes

-- how many of them
abbrev pub having : List Peer → ℕ
having peers = count_by has_bytes peers

-- how many of them have this number
abbrev pub had_in : ℕ → List Peer → ℕ
had_in id [] = 0
had_in id (peer ∷ peers) = (if has_bytes peer then one_at peer.id id else 0) + had_in id peers

-- ---- what the steps were

-- neither a wait nor a reading of the clock
pub record IsCalm (step : Step) : Type 0 where
  pub turn : (turn : List Step) → turn_behind turn step ≡ turn ++ step ∷ []
  pub clock : (now : ℕ) → clock_behind now step ≡ now

-- no frame is handled
abbrev pub NoneHandled : List Step → Type 0
NoneHandled steps = (id : ℕ) → handled id steps ≡ []

-- frames are handled of no connection but these
abbrev pub Grants : (ℕ → ℕ) → List Step → Type 0
Grants had steps = (id : ℕ) → 0 < length (handled id steps) → 0 < had id

-- no frame is handled, the handler does not settle, and the loop does not wait
abbrev pub IsWriting : Step → Type 0
IsWriting (Happens (Waited limit)) = ⊥
IsWriting (Happens event) = Unit {0}
IsWriting (Handles id frame reply) = ⊥
IsWriting (Settles done) = ⊥

-- a connection is closed for this reason
abbrev pub IsClosing : Departure → Step → Type 0
IsClosing why step = (id : ℕ) × (step ≡ Happens (Closed id why))

-- the handler was to settle, with this outcome, behind what was heard; P holds of each step after that
pub record SettlesBetween (done : Bool) (P : Step → Type 0) (steps : List Step) : Type 0 where
  pub first : List Step
  pub later : List Step
  pub parts : steps ≡ first ++ Settles done ∷ later
  pub hearing : AllByRecursion IsHearing first
  pub rest : AllByRecursion P later

-- no more than a share
pub record IsWithin (share id : ℕ) (turn : List Step) : Type 0 where
  pub frames : length (handled id turn) ≤ share
  pub bytes : length (came id turn) < share * 65536 + 65536

-- After these steps: `count` connections were opened, and of the others nothing happened; those of them that are not
-- open have left; `places` are open, each once; and all was as it is promised.
pub record Keeps (rules : Rules) (share count : ℕ) (open_as : ℕ → ℕ) (places : ℕ) (steps : List Step) : Type 0 where
  pub apart : (id : ℕ) → open_as id ≤ 1
  pub below : (id : ℕ) → 0 < open_as id → id < count
  pub gone : (id : ℕ) → id < count → open_as id ≡ 0 → HasLeft rules.idle id steps
  pub all : (id : ℕ) → id < count → Happened (Opened id) steps
  pub stays : (id : ℕ) (why : Departure) → 0 < open_as id → Happened (Closed id why) steps → ⊥
  pub others : (id : ℕ) → count ≤ id → AreOfOthers id steps
  pub each : (id : ℕ) → Always (IsServed id) [] steps
  pub seated : Always (IsSeated rules.seats) [] steps
  pub taken : length (opened steps) ≡ length (closed steps) + places
  pub numbered : opened steps ≡ numbers count
  pub fair : AtEach (IsFair rules) [] steps
  pub within : (id : ℕ) → IsWithin share id (turn_of steps)
  pub wanted : (total : ℕ) → rules.total ≡ Some total → count ≤ total
  pub limited : (id : ℕ) → length (handled id steps) ≤ frames_bound

-- ---- what is kept of each open connection

-- it was not heard in this turn
pub record Unheard (now : ℕ) (steps : List Step) (peer : Peer) : Type 0 where
  pub stands : Stands peer.id (kept_of peer) now steps
  pub quiet : IsQuiet peer.id (turn_of steps)
  pub counted : peer.frames ≡ length (handled peer.id steps)

-- it was looked at in this turn, and its frames are still to be handled
pub record Looked (now : ℕ) (steps : List Step) (peer : Peer) : Type 0 where
  pub stands : Stands peer.id (kept_of peer) now steps
  pub in_turn : InTurn peer.id peer.read 0 (turn_of steps)
  pub few : peer.read ≤ 65536
  pub dry : peer.drained ≡ true → RanDry peer (turn_of steps)
  pub rests : has_bytes peer ≡ false → (share count : ℕ) → Rests share peer count
  pub counted : peer.frames ≡ length (handled peer.id steps)

-- why no further frame of it was read in this turn, where this is the share
pub data Rested (share : ℕ) (peer : Peer) (count : ℕ) (steps : List Step) : Type 0 where
  SinceLeaving : (is : IsSome peer.leaving) → Rested share peer count steps
  SinceDry : (is : peer.drained ≡ true) → Rested share peer count steps
  SinceFrames : (is : count ≡ share) → Rested share peer count steps
  SinceBytes : (is : share * 65536 ≤ peer.read) → Rested share peer count steps
  SinceFull : (is : WasFull peer.id steps (turn_of steps)) → Rested share peer count steps

-- it was heard in this turn, and what waits for it is still to be written
pub record Heard (share now : ℕ) (steps : List Step) (peer : Peer) : Type 0 where
  pub stands : Stands peer.id (kept_of peer) now steps
  pub count : ℕ
  pub few : count ≤ share
  pub in_turn : InTurn peer.id peer.read count (turn_of steps)
  pub dry : peer.drained ≡ true → RanDry peer (turn_of steps)
  pub rested : Rested share peer count steps
  pub counted : peer.frames ≡ length (handled peer.id steps)

-- it had its turn
pub record Served (share idle now : ℕ) (steps : List Step) (peer : Peer) : Type 0 where
  pub stands : Stands peer.id (kept_of peer) now steps
  pub active : now - peer.active < idle
  pub settled : IsSettled (is_hungry peer ≡ true) share peer.id steps (turn_of steps)
  pub counted : peer.frames ≡ length (handled peer.id steps)

-- ---- the hall

-- After these steps: what is kept of all connections is what they left; and P holds of each that waits for its turn, Q
-- of each that had it.
pub record Holds (rules : Rules) (P Q : List Step → Peer → Type 0) (now share count : ℕ) (waiting served : List Peer)
    (steps : List Step) : Type 0 where
  pub keeps : Keeps rules share count (times_among waiting served) (length waiting + length served) steps
  pub clock : clock_of steps ≡ now
  pub all_waiting : AllByRecursion (P steps) waiting
  pub all_served : AllByRecursion (Q steps) served

-- P of no connection: there is none
abbrev pub NoPeer : List Step → Peer → Type 0
NoPeer steps peer = ⊥

-- between two turns
abbrev pub IsAtRest : Rules → Hall → List Step → Type 0
IsAtRest rules hall steps = Holds rules (Served hall.share rules.idle hall.time) NoPeer hall.time hall.share hall.opened
    hall.waiting.items hall.served.items steps

-- these steps lead from one to the other, after whatever steps
abbrev pub LeadsOn : Rules → (List Step → Peer → Type 0) → (List Step → Peer → Type 0) → (List Step → Peer → Type 0)
    → (List Step → Peer → Type 0) → Hall → Hall → List Step → Type 0
LeadsOn rules P Q R S old new steps =
    (before : List Step) → Holds rules P Q old.time old.share old.opened old.waiting.items old.served.items before
    → Holds rules R S new.time new.share new.opened new.waiting.items new.served.items (before ++ steps)

-- and they end no turn; K holds of each
abbrev pub LeadsInTurn : Rules → (Step → Type 0) → (List Step → Peer → Type 0) → (List Step → Peer → Type 0)
    → (List Step → Peer → Type 0) → (List Step → Peer → Type 0) → Hall → Hall → List Step → Type 0
LeadsInTurn rules K P Q R S old new steps =
    LeadsOn rules P Q R S old new steps × AllByRecursion IsCalm steps × AllByRecursion K steps

-- those that waited were accepted
pub record Admits (rules : Rules) (old new : Hall) (steps : List Step) : Type 0 where
  pub leads : LeadsOn rules (Unheard old.time) NoPeer (Unheard old.time) NoPeer old new steps
  pub calm : AllByRecursion IsCalm steps
  pub hearing : AllByRecursion IsHearing steps
  pub admitted : (before : List Step)
      → Holds rules (Unheard old.time) NoPeer new.time new.share new.opened new.waiting.items new.served.items
      (before ++ steps)
      → HasAdmitted rules (before ++ steps) (turn_of (before ++ steps))

-- each was heard: nothing was handled of those that had no bytes
abbrev pub HearsEach : Rules → (List Step → Peer → Type 0) → (List Step → Peer → Type 0) → Hall → Hall → List Step
    → Type 0
HearsEach rules S R old new steps =
    LeadsInTurn rules IsHearing (Looked old.time) S R S old new steps
    × Grants (λ id. had_in id old.waiting.items) steps

-- a turn begins with the least share
abbrev pub fresh : Hall → Hall
fresh hall = record hall { share = 1 }

-- what holds where a turn begins
abbrev pub Begins : Rules → Hall → List Step → Type 0
Begins rules hall steps =
    Holds rules (Unheard hall.time) NoPeer hall.time 1 hall.opened hall.waiting.items hall.served.items steps

-- a turn in which the handler settled
pub record TakesTurn (rules : Rules) (old new : Hall) (steps : List Step) : Type 0 where
  pub leads : LeadsOn rules (Unheard old.time) NoPeer (Served new.share rules.idle new.time) NoPeer (fresh old) new
      steps
  pub begins : (before : List Step) → Begins rules old before
      → HasBegun rules (before ++ steps) (turn_of (before ++ steps))
  pub shares : (before : List Step) → Begins rules old before → turn_of before ≡ []
      → IsShare new.share (before ++ steps) (turn_of (before ++ steps))
  pub settles : SettlesBetween true IsWriting steps

-- a turn in which it failed to: every connection was closed
pub record GivesUp (rules : Rules) (old new : Hall) (steps : List Step) : Type 0 where
  pub keeps : (before : List Step) → Begins rules old before
      → Keeps rules new.share new.opened (λ _. 0) 0 (before ++ steps)
  pub settles : SettlesBetween false (IsClosing departures.Unsettled) steps

-- either, by whether it settled
abbrev pub Turned : Bool → Rules → Hall → Hall → List Step → Type 0
Turned true = TakesTurn
Turned false = GivesUp

-- ---- the end

-- why the loop ends early
abbrev pub EndsFor : Departure → List Step → Type 0
EndsFor departures.Stopped steps = IsStopped steps
EndsFor departures.Unsettled steps = FailedToSettle steps
EndsFor _ steps = ⊥

-- of these connections some were closed for this reason, whichever others are open
pub record ClosesSome (why : Departure) (old new : List Peer) (steps : List Step) : Type 0 where
  pub closing : AllByRecursion (IsClosing why) steps
  pub keeps : (rules : Rules) (share count : ℕ) (others : ℕ → ℕ) (places : ℕ) (before : List Step) → EndsFor why before
      → Keeps rules share count (λ id. times_in id old + others id) (length old + places) before
      → EndsFor why (before ++ steps)
      × Keeps rules share count (λ id. times_in id new + others id) (length new + places) (before ++ steps)

-- every connection was closed, since the loop could not wait any longer
pub record Stops (rules : Rules) (old new : Hall) (steps : List Step) : Type 0 where
  pub writing : AllByRecursion IsWriting steps
  pub keeps : (before : List Step) → IsStopped before → IsAtRest rules old before
      → IsStopped (before ++ steps) × Keeps rules new.share new.opened (λ _. 0) 0 (before ++ steps)

-- ---- the seats

-- there is room for this many connections in each list, and the state of each is whole
pub record HasRooms (seats : ℕ) (hall : Hall) : Type 0 where
  pub waiting : seats ≤ vec_capacity hall.waiting
  pub served : seats ≤ vec_capacity hall.served
  pub places : length hall.waiting.items + length hall.served.items ≤ seats
  pub whole_waiting : AllByRecursion IsWhole hall.waiting.items
  pub whole_served : AllByRecursion IsWhole hall.served.items

-- a wait of this many milliseconds is not too long for it
pub record IsPatient (idle now limit : ℕ) (peer : Peer) : Type 0 where
  pub hungry : is_hungry peer ≡ true → limit ≡ 0
  pub prompt : limit ≤ idle - (now - peer.active)
