-- Why a connection was closed, and what each reason says of it (this project's own).
use Rattle.std.specs.Prelude.{◌≡◌, ℕ, ◌-◌, ◌≤◌, ◌⊎◌, Bool, true, false, List, [], ◌++◌, count_by, Err, length}
use Rattle.std.specs.List.{AllByRecursion}
use Rattle.droid_frame.specs.Replies.{HasReplySpelling}
use Rattle.droid_frame.specs.StreamReads.{NamesSomeBody}
use Rattle.droid_frame.specs.Streams.{BeginsNoFrame, IsReadable, why}
use Rattle.droid_frame.specs.declared.streams.fault.FrameFault.{FrameFault}
use Rattle.droid_frame.specs.declared.streams.fault.FrameFault.TheVariants as faults
use Rattle.droid_turns.specs.Events.{Waited, Unwaited, Ended, Unread, Unwritten}
use Rattle.droid_turns.specs.Steps.{Step, FailedToSettle, Happens, Happened, Times, came, handled, spelled_frames}
use Rattle.droid_turns.specs.Steps.{spelled_replies, times_of, went}
use Rattle.droid_turns.specs.declared.departure.Departure.{Departure}
use Rattle.droid_turns.specs.declared.departure.Departure.TheVariants as departures

-- the most bytes that are held of one connection: less than the longest frame, and one buffer
abbrev pub held_bound : ℕ
held_bound = 4259922

-- the most bytes that wait to be written to it: 8 MiB, and one reply
abbrev pub queue_bound : ℕ
queue_bound = 9437266

-- the most frames of it
abbrev pub frames_bound : ℕ
frames_bound = 1000000

-- Of one connection: the bytes that came from it are frames that were handled, in order, and then `held`. The bytes
-- that it took are the first of the frames of their replies, each in its version, in order; `queued` are the others.
pub record Serves (id : ℕ) (steps : List Step) (held queued : List ℕ) : Type 0 where
  pub readable : AllByRecursion (λ one. IsReadable one.0) (handled id steps)
  pub spelled : AllByRecursion (λ one. HasReplySpelling one.0.version one.1) (handled id steps)
  pub read : came id steps ≡ spelled_frames (handled id steps) ++ held
  pub written : spelled_replies (handled id steps) ≡ went id steps ++ queued
  pub few : length held ≤ held_bound
  pub short : length queued ≤ queue_bound

-- the connection was served so, whatever is held and left to be written
pub record IsServed (id : ℕ) (steps : List Step) : Type 0 where
  pub held : List ℕ
  pub queued : List ℕ
  pub serves : Serves id steps held queued

-- the input ended within a frame
pub record IsCut (id : ℕ) (steps : List Step) (held : List ℕ) : Type 0 where
  pub ended : Happened (Ended id) steps
  pub no_frame : BeginsNoFrame held
  pub reason : why held ≡ Err faults.Truncated

-- the next header has a fault
pub record IsRefused (fault : FrameFault) (held : List ℕ) : Type 0 where
  pub no_frame : BeginsNoFrame held
  pub reason : why held ≡ Err fault

-- why no further frame of a connection is handled, by what was held
abbrev pub StopsBy : ℕ → List Step → List ℕ → FrameFault → Type 0
StopsBy id steps held faults.Truncated = IsCut id steps held
StopsBy id steps held faults.BadVersion = IsRefused faults.BadVersion held
StopsBy id steps held faults.TooLong = IsRefused faults.TooLong held
StopsBy id steps held faults.Memory = NamesSomeBody held
StopsBy id steps held faults.Read = Happened (Unread id) steps

-- nothing came from it and it took nothing for this long
pub record IsIdle (idle : ℕ) (times : Times) : Type 0 where
  pub long : idle ≤ times.now - times.active

-- a wait that did not fail
abbrev pub is_wait : Step → Bool
is_wait (Happens (Waited limit)) = true
is_wait _ = false

-- waiting failed, or there were 2^64 - 1 waits
abbrev pub IsStopped : List Step → Type 0
IsStopped steps = Happened Unwaited steps ⊎ (18446744073709551615 ≤ count_by is_wait steps)

-- What each reason says: of what was held, of what was left to be written, and of what happened. Where it isn't that
-- writing failed, that memory ran out for a reply, that it was idle, that waiting failed or that settling failed, every
-- reply was written.
abbrev pub Explains : ℕ → ℕ → List Step → List ℕ → List ℕ → Departure → Type 0
Explains idle id steps held queued departures.Closed = Happened (Ended id) steps × (held ≡ []) × (queued ≡ [])
Explains idle id steps held queued departures.Enough = (frames_bound ≤ length (handled id steps)) × (queued ≡ [])
Explains idle id steps held queued (departures.Frame fault) = StopsBy id steps held fault × (queued ≡ [])
Explains idle id steps held queued departures.Memory = Unit {0}
Explains idle id steps held queued departures.Write = Happened (Unwritten id) steps
Explains idle id steps held queued departures.Idle = IsIdle idle (times_of id steps)
Explains idle id steps held queued departures.Stopped = IsStopped steps
Explains idle id steps held queued departures.Unsettled = FailedToSettle steps
