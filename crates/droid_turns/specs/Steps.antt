-- What the loop did: its steps, and what they say of one connection (this project's own).
use Rattle.std.specs.Prelude.{◌≡◌, ℕ, zero, suc, ◌==◌, if◌then◌else◌, Bool, true, false, List, [], ◌∷◌, ◌++◌, fold, map}
use Rattle.std.specs.Prelude.{◌⊎◌}
use Rattle.std.specs.List.{AllByRecursion, flat_map}
use Rattle.droid_frame.specs.Frames.{frame_bytes}
use Rattle.droid_frame.specs.ReplyFrames.{reply_frame}
use Rattle.droid_frame.specs.declared.frame.Frame.{Frame}
use Rattle.droid_frame.specs.declared.reply.Reply.{Reply}
use Rattle.droid_turns.specs.Chains.{GoesOver}
use Rattle.droid_turns.specs.Events.{Event, Waited, Timed, Opened, Read, Ended, Unread, Wrote, Unwritten, Closed}

-- a step is an event on the connections; or the handler handled a frame of this connection, with this reply; or it was
-- to settle what it had handled, and did so or failed to
pub data Step : Type 0 where
  Happens : (event : Event) → Step
  Handles : (id : ℕ) (frame : Frame) (reply : Reply) → Step
  Settles : (done : Bool) → Step

-- the connections and the handler, before and after a step
abbrev pub Does : {C H : Type 0} → (C → Event → C → Type 0) → (H → Frame → Reply → H → Type 0) → (H → Bool → H → Type 0)
    → C × H → Step → C × H → Type 0
Does does handles settles old (Happens event) new = does old.0 event new.0 × (new.1 ≡ old.1)
Does does handles settles old (Handles id frame reply) new = (new.0 ≡ old.0) × handles old.1 frame reply new.1
Does does handles settles old (Settles done) new = (new.0 ≡ old.0) × settles old.1 done new.1

-- steps were done from these connections and this handler on, and P holds of them
pub record Goes {C H : Type 0} (does : C → Event → C → Type 0) (handles : H → Frame → Reply → H → Type 0)
    (settles : H → Bool → H → Type 0) (connections : C) (handler : H) (later : C) (after : H) (P : List Step → Type 0)
    : Type 0 where
  pub steps : List Step
  pub done : GoesOver (Does does handles settles) (connections, handler) steps (later, after)
  pub holds : P steps

-- the same of events alone
pub record Moves {C : Type 0} (does : C → Event → C → Type 0) (connections later : C) (P : List Step → Type 0)
    : Type 0 where
  pub events : List Event
  pub done : GoesOver does connections events later
  pub holds : P (map Happens events)

-- the event is among the steps
abbrev pub Happened : Event → List Step → Type 0
Happened event [] = ⊥
Happened event (step ∷ steps) = (step ≡ Happens event) ⊎ Happened event steps

-- ---- of one connection

-- the bytes that a step read of it
abbrev pub bytes_read : ℕ → Step → List ℕ
bytes_read id (Happens (Read who bytes)) = if who == id then bytes else []
bytes_read id _ = []

-- the bytes that it took in a step
abbrev pub bytes_written : ℕ → Step → List ℕ
bytes_written id (Happens (Wrote who bytes)) = if who == id then bytes else []
bytes_written id _ = []

-- the frame of it that a step handled, with the reply
abbrev pub handled_in : ℕ → Step → List (Frame × Reply)
handled_in id (Handles who frame reply) = if who == id then (frame, reply) ∷ [] else []
handled_in id _ = []

-- all bytes that came from it, in order
abbrev pub came : ℕ → List Step → List ℕ
came id steps = flat_map (bytes_read id) steps

-- all bytes that it took, in order
abbrev pub went : ℕ → List Step → List ℕ
went id steps = flat_map (bytes_written id) steps

-- all its frames that were handled, each with its reply, in order
abbrev pub handled : ℕ → List Step → List (Frame × Reply)
handled id steps = flat_map (handled_in id) steps

-- the bytes of frames, one after the other
abbrev pub spelled_frames : List (Frame × Reply) → List ℕ
spelled_frames answered = flat_map (λ one. frame_bytes one.0) answered

-- the bytes of the frames of their replies, each with the version, the client and the number of its request
abbrev pub spelled_replies : List (Frame × Reply) → List ℕ
spelled_replies answered = flat_map (λ one. reply_frame one.0.version one.0.client one.0.number one.1) answered

-- ---- of all connections

-- the frame that a step handled, of whichever connection
abbrev pub handled_by : Step → List (Frame × Reply)
handled_by (Handles who frame reply) = (frame, reply) ∷ []
handled_by (Happens event) = []
handled_by (Settles done) = []

-- all frames that were handled, with their replies, in the order in which the handler handled them
abbrev pub all_handled : List Step → List (Frame × Reply)
all_handled steps = flat_map handled_by steps

-- the connection that a step opened
abbrev pub opened_by : Step → List ℕ
opened_by (Happens (Opened id)) = id ∷ []
opened_by _ = []

-- the connection that a step closed
abbrev pub closed_by : Step → List ℕ
closed_by (Happens (Closed id why)) = id ∷ []
closed_by _ = []

-- the connections that were opened, in order
abbrev pub opened : List Step → List ℕ
opened steps = flat_map opened_by steps

-- the connections that were closed, in order
abbrev pub closed : List Step → List ℕ
closed steps = flat_map closed_by steps

-- the numbers below this one, in order
abbrev pub numbers : ℕ → List ℕ
numbers zero = []
numbers (suc count) = numbers count ++ count ∷ []

-- ---- whose a step is

-- the step moves bytes of this connection, or handles a frame of it
abbrev pub IsTraffic : ℕ → Step → Type 0
IsTraffic id (Happens (Read who bytes)) = who ≡ id
IsTraffic id (Happens (Ended who)) = who ≡ id
IsTraffic id (Happens (Unread who)) = who ≡ id
IsTraffic id (Happens (Wrote who bytes)) = who ≡ id
IsTraffic id (Happens (Unwritten who)) = who ≡ id
IsTraffic id (Happens _) = ⊥
IsTraffic id (Handles who frame reply) = who ≡ id
IsTraffic id (Settles done) = ⊥

-- the step is of this connection
abbrev pub IsOf : ℕ → Step → Type 0
IsOf id (Happens (Opened who)) = who ≡ id
IsOf id (Happens (Closed who why)) = who ≡ id
IsOf id step = IsTraffic id step

-- the step is of no connection, or of another one
abbrev pub IsOfOther : ℕ → Step → Type 0
IsOfOther id step = IsOf id step → ⊥

-- no step is of it
abbrev pub AreOfOthers : ℕ → List Step → Type 0
AreOfOthers id steps = AllByRecursion (IsOfOther id) steps

-- ---- time

-- what a clock said last, and when bytes of a connection last came or went; at first it was opened
pub record Times : Type 0 where
  pub now : ℕ
  pub active : ℕ

-- after a read or a write of these bytes: only at least one byte counts
abbrev pub moves : Times → List ℕ → Times
moves times [] = times
moves times (byte ∷ bytes) = record { now = times.now; active = times.now }

-- after a step: the clock was read, the connection was opened, or its bytes came or went
abbrev pub times_behind : ℕ → Times → Step → Times
times_behind id times (Happens (Timed time)) = record { now = time; active = times.active }
times_behind id times (Happens (Opened who)) =
    if who == id then record { now = times.now; active = times.now } else times
times_behind id times (Happens (Read who bytes)) = if who == id then moves times bytes else times
times_behind id times (Happens (Wrote who bytes)) = if who == id then moves times bytes else times
times_behind id times _ = times

-- after these steps
abbrev pub times_of : ℕ → List Step → Times
times_of id steps = fold (times_behind id) (record { now = 0; active = 0 }) steps

-- after a step
abbrev pub clock_behind : ℕ → Step → ℕ
clock_behind now (Happens (Timed time)) = time
clock_behind now _ = now

-- what a clock said last, after these steps; at first 0
abbrev pub clock_of : List Step → ℕ
clock_of steps = fold clock_behind 0 steps

-- ---- turns

-- a wait ends a turn
abbrev pub turn_behind : List Step → Step → List Step
turn_behind turn (Happens (Waited limit)) = []
turn_behind turn step = turn ++ step ∷ []

-- the steps since the last wait
abbrev pub turn_of : List Step → List Step
turn_of steps = fold turn_behind [] steps

-- ---- settling

-- among the steps the handler was to settle what it had handled, with this outcome
abbrev pub SettledSo : Bool → List Step → Type 0
SettledSo done [] = ⊥
SettledSo done (step ∷ steps) = (step ≡ Settles done) ⊎ SettledSo done steps

-- it failed to settle
abbrev pub FailedToSettle : List Step → Type 0
FailedToSettle steps = SettledSo false steps

-- it never failed to
abbrev pub NeverFailed : List Step → Type 0
NeverFailed steps = FailedToSettle steps → ⊥

-- behind each frame that was handled the handler settled
abbrev pub EachSettled : List Step → Type 0
EachSettled [] = Unit {0}
EachSettled (Happens event ∷ steps) = EachSettled steps
EachSettled (Handles id frame reply ∷ steps) = SettledSo true steps × EachSettled steps
EachSettled (Settles done ∷ steps) = EachSettled steps

-- all that was handled is settled, and settling never failed
pub record AllSettled (steps : List Step) : Type 0 where
  pub each : EachSettled steps
  pub never_failed : NeverFailed steps

-- the handler was to settle, with whatever outcome
abbrev pub is_settling : Step → Bool
is_settling (Happens event) = false
is_settling (Handles id frame reply) = false
is_settling (Settles done) = true

-- ---- moments

-- P held after the first steps, and after each of those that followed
abbrev pub Always : (List Step → Type 0) → List Step → List Step → Type 0
Always P before [] = P before
Always P before (step ∷ steps) = P before × Always P (before ++ step ∷ []) steps

-- P held of each step, and of all before it
abbrev pub AtEach : (List Step → Step → Type 0) → List Step → List Step → Type 0
AtEach P before [] = Unit {0}
AtEach P before (step ∷ steps) = P before step × AtEach P (before ++ step ∷ []) steps
