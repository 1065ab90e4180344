-- The outcome of serving many connections in turns (this project's own).
use Rattle.std.specs.Prelude.{◌≡◌, ◌≢◌, ℕ, zero, suc, ◌+◌, ◌-◌, ◌*◌, ◌/◌, ◌<◌, ◌≤◌, ◌⊎◌, min, max, List, [], ◌∷◌, ◌++◌}
use Rattle.std.specs.Prelude.{Option, None, Some, count_by, length}
use Rattle.droid_frame.specs.Streams.{BeginsNoFrame}
use Rattle.droid_frame.specs.declared.streams.fault.FrameFault.{FrameFault}
use Rattle.droid_turns.specs.Departures.{Explains, IsServed, IsStopped, Serves, StopsBy, frames_bound}
use Rattle.droid_turns.specs.Events.{Opened, NoneOpened, Closed, Ended, Read, Timed, Unwritten, Waited, Wrote}
use Rattle.droid_turns.specs.Steps.{AllSettled, Always, AreOfOthers, AtEach, FailedToSettle, Happened, Happens}
use Rattle.droid_turns.specs.Steps.{NeverFailed, Step, came, closed, handled, is_settling, numbers, opened}
use Rattle.droid_turns.specs.Steps.{spelled_frames, times_of, turn_of}
use Rattle.droid_turns.specs.declared.departure.Departure.{Departure}
use Rattle.droid_turns.specs.declared.departure.Departure.TheVariants as departures
use Rattle.droid_turns.specs.declared.rules.Rules.{Rules}
use Rattle.droid_turns.specs.declared.service_end.Served.{Served}
use Rattle.droid_turns.specs.declared.service_end.Served.TheVariants as ways

-- ---- how each connection ends

-- the connection was opened, and not closed
pub record IsOpenAfter (id : ℕ) (steps : List Step) : Type 0 where
  pub was_opened : Happened (Opened id) steps
  pub stays : (why : Departure) → Happened (Closed id why) steps → ⊥

-- The connection was open and was closed for this reason, and nothing of it happened after that. What was written to it
-- until then, and what was held of it, is explained by the reason.
pub record HasLeft (idle id : ℕ) (steps : List Step) : Type 0 where
  pub why : Departure
  pub before : List Step
  pub later : List Step
  pub parts : steps ≡ before ++ Happens (Closed id why) ∷ later
  pub was_open : IsOpenAfter id before
  pub nothing_later : AreOfOthers id later
  pub held : List ℕ
  pub queued : List ℕ
  pub serves : Serves id before held queued
  pub explained : Explains idle id before held queued why

-- each connection that was opened has left
abbrev pub HaveLeft : ℕ → List Step → Type 0
HaveLeft idle steps = (id : ℕ) → Happened (Opened id) steps → HasLeft idle id steps

-- ---- how the loop ends

-- the connections are those with the numbers below `count`, and nothing happened of any other
pub record AreAll (count : ℕ) (steps : List Step) : Type 0 where
  pub each_opened : (id : ℕ) → id < count → Happened (Opened id) steps
  pub others : (id : ℕ) → count ≤ id → AreOfOthers id steps

-- as many as the rules allow; or as many as there are numbers
abbrev pub IsAll : Option ℕ → ℕ → Type 0
IsAll None count = 18446744073709551615 ≤ count
IsAll (Some total) count = count ≡ total

-- As many connections came as the rules allow; or waiting failed, or there were 2^64 - 1 turns; or memory ran out at
-- once; or settling failed.
abbrev pub EndsBy : Option ℕ → Served → List Step → Type 0
EndsBy total ways.All steps = (count : ℕ) × AreAll count steps × IsAll total count
EndsBy total ways.Stopped steps = IsStopped steps
EndsBy total ways.Memory steps = steps ≡ []
EndsBy total ways.Unsettled steps = FailedToSettle steps

-- ---- how many are open

-- no more connections are open than there are seats
abbrev pub IsSeated : ℕ → List Step → Type 0
IsSeated seats steps = length (opened steps) ≤ length (closed steps) + seats

-- connections have numbers from 0 on, in the order in which they came, and none has the number of another
abbrev pub IsNumbered : List Step → Type 0
IsNumbered steps = opened steps ≡ numbers (length (opened steps))

-- ---- what each turn begins with: a turn is the steps between two waits

-- at a moment of this turn all seats were taken
pub record WereTaken (seats : ℕ) (steps turn : List Step) : Type 0 where
  pub early : List Step
  pub first : List Step
  pub late : List Step
  pub parts : steps ≡ early ++ late
  pub within : turn ≡ first ++ late
  pub taken : length (closed early) + seats ≤ length (opened early)

-- as many came as the rules allow; or there is no further number
abbrev pub HasEnough : Option ℕ → ℕ → Type 0
HasEnough None count = 18446744073709551615 ≤ count
HasEnough (Some total) count = total ≤ count

-- Those that waited were accepted in this turn: then none waited, or all seats were taken, or enough had come.
abbrev pub HasAdmitted : Rules → List Step → List Step → Type 0
HasAdmitted rules steps turn =
    Happened NoneOpened turn ⊎ (WereTaken rules.seats steps turn ⊎ HasEnough rules.total (length (opened steps)))

-- in this turn the clock was read, and those that waited were accepted
pub record HasBegun (rules : Rules) (steps turn : List Step) : Type 0 where
  pub time : ℕ
  pub timed : Happened (Timed time) turn
  pub admitted : HasAdmitted rules steps turn

-- ---- what each connection gets in a turn

-- a read of it in this turn gave nothing, and no whole frame is held
pub record IsDrained (id : ℕ) (turn : List Step) (held : List ℕ) : Type 0 where
  pub nothing : Happened (Read id []) turn
  pub no_frame : BeginsNoFrame held

-- its input ended behind a whole frame; or no further frame of it can be read; or enough of them were handled
abbrev pub IsLeaving : ℕ → List Step → List ℕ → Type 0
IsLeaving id steps held =
    (Happened (Ended id) steps × (held ≡ []))
    ⊎ (((fault : FrameFault) × StopsBy id steps held fault) ⊎ (frames_bound ≤ length (handled id steps)))

-- at a moment of this turn more than 8 MiB waited to be written to it
pub record WasFull (id : ℕ) (steps turn : List Step) : Type 0 where
  pub early : List Step
  pub first : List Step
  pub late : List Step
  pub parts : steps ≡ early ++ late
  pub within : turn ≡ first ++ late
  pub held : List ℕ
  pub queued : List ℕ
  pub serves : Serves id early held queued
  pub full : 8388608 < length queued

-- it had its share of this turn: so many frames were handled, or 64 KiB for each of them were read, or more than 8 MiB
-- of replies waited
abbrev pub HadShare : ℕ → ℕ → List Step → List Step → Type 0
HadShare share id steps turn =
    (length (handled id turn) ≡ share) ⊎ ((share * 65536 ≤ length (came id turn)) ⊎ WasFull id steps turn)

-- All that waits for it was written, or in this turn it took nothing more. It was read until nothing came; or more than
-- 8 MiB wait to be written to it; or it is leaving, and something waits; or it had its share of the turn, and goes on
-- at once.
pub record IsSettled (goes_on : Type 0) (share id : ℕ) (steps turn : List Step) : Type 0 where
  pub held : List ℕ
  pub queued : List ℕ
  pub serves : Serves id steps held queued
  pub written : (queued ≡ []) ⊎ Happened (Wrote id []) turn
  pub read : IsDrained id turn held
      ⊎ ((8388608 < length queued)
      ⊎ ((IsLeaving id steps held × (0 < length queued)) ⊎ (goes_on × HadShare share id steps turn)))

-- Where the loop waits for at most `limit` milliseconds: an open connection will not have been idle for too long by
-- then, and is settled. If it is to go on, the loop does not wait.
pub record IsReady (idle limit share id : ℕ) (steps turn : List Step) : Type 0 where
  pub prompt : ((times_of id steps).now - (times_of id steps).active) + limit ≤ idle
  pub settled : IsSettled (limit ≡ 0) share id steps turn

-- no connection had more than the share
pub record HadTurn (idle limit share id : ℕ) (steps turn : List Step) : Type 0 where
  pub frames : length (handled id turn) ≤ share
  pub bytes : length (came id turn) < share * 65536 + 65536
  pub ready : IsOpenAfter id steps → IsReady idle limit share id steps turn

-- ---- how large a share is

-- of 256 frames, where so many connections have any: at most 64, and at least 1
abbrev pub share_of : ℕ → ℕ
share_of having = min (max (256 / max having 1) 1) 64

-- 1 of some, 0 of none
abbrev pub any : ℕ → ℕ
any zero = 0
any (suc more) = 1

-- the sum over the connections with the numbers below this one
abbrev pub sum_below : (ℕ → ℕ) → ℕ → ℕ
sum_below of zero = 0
sum_below of (suc count) = sum_below of count + of count

-- how many bytes of a connection are in no frame that was handled
abbrev pub bytes_left : ℕ → List Step → ℕ
bytes_left id steps = length (came id steps) - length (spelled_frames (handled id steps))

-- of how many connections frames were handled in this turn
abbrev pub busy_ones : List Step → List Step → ℕ
busy_ones steps turn = sum_below (λ id. any (length (handled id turn))) (length (opened steps))

-- the same, and those of which bytes are left
abbrev pub with_bytes : List Step → List Step → ℕ
with_bytes steps turn =
    sum_below (λ id. any (length (handled id turn) + bytes_left id steps)) (length (opened steps))

-- The share of a turn: it is by a number of connections that is not less than of how many frames were handled, and not
-- more than how many had bytes.
pub record IsShare (share : ℕ) (steps turn : List Step) : Type 0 where
  pub having : ℕ
  pub share_is : share ≡ share_of having
  pub all : busy_ones steps turn ≤ having
  pub only : having ≤ with_bytes steps turn

-- whenever the loop waits, but for the first time, a turn was begun, and each connection had its turn
pub record IsTurn (rules : Rules) (limit : ℕ) (steps turn : List Step) : Type 0 where
  pub begun : (steps ≡ []) ⊎ HasBegun rules steps turn
  pub share : ℕ
  pub is_share : IsShare share steps turn
  pub each : (id : ℕ) → HadTurn rules.idle limit share id steps turn

-- the same of a step: only a wait asks for it
abbrev pub IsFair : Rules → List Step → Step → Type 0
IsFair rules steps (Happens (Waited limit)) = IsTurn rules limit steps (turn_of steps)
IsFair rules steps _ = Unit {0}

-- ---- what is settled before it is shown

-- the handler settled once in this turn
abbrev pub SettledOnce : List Step → Type 0
SettledOnce turn = count_by is_settling turn ≡ 1

-- Whenever bytes are written to a connection, or that is tried, all that was handled is settled. So it is whenever the
-- loop waits; and in each turn before that the handler settled once. Once settling failed, connections are closed for
-- that reason, and nothing else happens.
abbrev pub SettlesFirst : List Step → Step → Type 0
SettlesFirst before (Happens (Wrote id bytes)) = AllSettled before
SettlesFirst before (Happens (Unwritten id)) = AllSettled before
SettlesFirst before (Happens (Waited limit)) = AllSettled before × ((before ≡ []) ⊎ SettledOnce (turn_of before))
SettlesFirst before (Happens (Closed id departures.Unsettled)) = Unit {0}
SettlesFirst before step = NeverFailed before

-- ---- all of it

-- At each moment each connection was served well; in the end each had left. So a connection that ends, fails or is idle
-- changes nothing for the others: what is said of each depends on its own steps alone. And none waits for another. No
-- reply is shown before it is settled; in the end all are, but where settling failed. Of no connection more than
-- 1,000,000 frames were handled.
pub record ServesAll (rules : Rules) (result : Served) (steps : List Step) : Type 0 where
  pub each : (id : ℕ) → Always (IsServed id) [] steps
  pub seated : Always (IsSeated rules.seats) [] steps
  pub numbered : IsNumbered steps
  pub fair : AtEach (IsFair rules) [] steps
  pub settled : AtEach SettlesFirst [] steps
  pub all_settled : result ≢ ways.Unsettled → AllSettled steps
  pub limited : (id : ℕ) → length (handled id steps) ≤ frames_bound
  pub left : HaveLeft rules.idle steps
  pub ended : EndsBy rules.total result steps
