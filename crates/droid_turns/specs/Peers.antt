-- For inner clauses and proofs: what the loop keeps of an open connection, after the steps so far.
use Rattle.std.specs.Prelude.{◌≡◌, ℕ, ◌+◌, ◌-◌, ◌*◌, ◌<◌, ◌≤◌, ◌&&◌, ◌⊎◌, ◌==◌, if◌then◌else◌, not, nat_le, nat_lt}
use Rattle.std.specs.Prelude.{Bool, true, false, List, [], ◌++◌, length, take, drop, Option, None, Some, Err, IsSome}
use Rattle.std.specs.Prelude.{is_none}
use Rattle.std.specs.List.{AllByRecursion}
use Rattle.droid_frame.specs.Frames.{frame_bytes}
use Rattle.droid_frame.specs.Streams.{BeginsNoFrame, IsReadable, why}
use Rattle.droid_turns.specs.Feeding.{IsOfBytes}
use Rattle.droid_frame.specs.declared.frame.Frame.{Frame}
use Rattle.droid_turns.specs.Departures.{Explains, IsServed, Serves, StopsBy, frames_bound}
use Rattle.droid_turns.specs.Events.{Ended, Read, Unwritten, Waited, Wrote}
use Rattle.droid_turns.specs.Steps.{Always, Happened, Happens, IsTraffic, Settles, Step, came, handled, times_of}
use Rattle.droid_turns.specs.declared.departure.Departure.{Departure}
use Rattle.droid_turns.specs.declared.departure.Departure.TheVariants as departures
use Rattle.droid_turns.specs.declared.peer.Peer.{Peer}

-- ---- what is kept

-- the bytes that were read and are not fed yet
abbrev pub unread : Peer → List ℕ
unread peer = take (peer.end - peer.start) (drop peer.start peer.buffer.items)

-- what is held of a connection, what waits to be written to it, why it leaves, and when bytes of it last came or went
pub record Kept : Type 0 where
  pub held : List ℕ
  pub queued : List ℕ
  pub leaving : Option Departure
  pub active : ℕ

-- the record of these four
abbrev pub keep : List ℕ → List ℕ → Option Departure → ℕ → Kept
keep held queued leaving active = record { held = held; queued = queued; leaving = leaving; active = active }

-- what the loop keeps of a connection: what was fed or read of it is held, and its queue waits to be written
abbrev pub kept_of : Peer → Kept
kept_of peer = keep (peer.feed.bytes ++ unread peer) peer.queue.bytes peer.leaving peer.active

-- What is held, and what is left to be written, of a connection that is not leaving; or of one that leaves for this
-- reason. Where memory ran out for a reply, that reply is lost.
abbrev pub IsLeft : ℕ → List Step → Kept → List ℕ → List ℕ → Option Departure → Type 0
IsLeft id steps kept held queued None = (held ≡ kept.held) × (queued ≡ kept.queued)
IsLeft id steps kept held queued (Some departures.Closed) =
    Happened (Ended id) steps × (held ≡ []) × (queued ≡ kept.queued)
IsLeft id steps kept held queued (Some departures.Enough) = (held ≡ kept.held) × (queued ≡ kept.queued)
IsLeft id steps kept held queued (Some (departures.Frame fault)) = StopsBy id steps held fault × (queued ≡ kept.queued)
IsLeft id steps kept held queued (Some departures.Memory) = (lost : List ℕ) × (queued ≡ kept.queued ++ lost)
IsLeft id steps kept held queued (Some departures.Write) = ⊥
IsLeft id steps kept held queued (Some departures.Idle) = ⊥
IsLeft id steps kept held queued (Some departures.Stopped) = ⊥
IsLeft id steps kept held queued (Some departures.Unsettled) = ⊥

-- what is kept of the connection is what the steps so far left of it
pub record Stands (id : ℕ) (kept : Kept) (now : ℕ) (steps : List Step) : Type 0 where
  pub held : List ℕ
  pub queued : List ℕ
  pub serves : Serves id steps held queued
  pub is_left : IsLeft id steps kept held queued kept.leaving
  pub times : times_of id steps ≡ record { now = now; active = kept.active }

-- the same, but for a frame that was taken from what was held, and is to be handled
pub record Lends (id : ℕ) (kept : Kept) (now : ℕ) (steps : List Step) (frame : Frame) : Type 0 where
  pub serves : Serves id steps (frame_bytes frame ++ kept.held) kept.queued
  pub readable : IsReadable frame
  pub stays : kept.leaving ≡ None
  pub times : times_of id steps ≡ record { now = now; active = kept.active }

-- why a connection leaves behind this many frames
abbrev pub leaving_behind : ℕ → Option Departure
leaving_behind frames = if frames == frames_bound then Some departures.Enough else None

-- of a connection that stays, further frames may be handled; one that had enough had all of them
abbrev pub IsCounted : ℕ → Option Departure → Type 0
IsCounted frames None = frames < frames_bound
IsCounted frames (Some departures.Enough) = frames ≡ frames_bound
IsCounted frames (Some why) = frames ≤ frames_bound

-- the bytes that were read lie within the buffer; what was fed is no whole frame, and less than the longest
pub record IsWhole (peer : Peer) : Type 0 where
  pub ordered : peer.start ≤ peer.end
  pub within : peer.end ≤ length peer.buffer.items
  pub sized : length peer.buffer.items ≡ 65536
  pub fed : length peer.feed.bytes ≤ 4194386
  pub no_frame : BeginsNoFrame peer.feed.bytes
  pub counts : IsCounted peer.frames peer.leaving

-- a connection that was just opened
pub record IsNew (id now : ℕ) (peer : Peer) : Type 0 where
  pub id_is : peer.id ≡ id
  pub whole : IsWhole peer
  pub kept : kept_of peer ≡ keep [] [] None now
  pub frames : peer.frames ≡ 0

-- ---- what steps of it do

-- Steps of this connection alone. In each of these moments it was served well, and what is kept of it goes on.
pub record Advances (id now : ℕ) (old new : Kept) (steps : List Step) : Type 0 where
  pub own : AllByRecursion (IsTraffic id) steps
  pub stands : (before : List Step) → Stands id old now before
      → Always (IsServed id) before steps × Stands id new now (before ++ steps)

-- the same, with a frame taken
pub record Lending (id now : ℕ) (old new : Kept) (frame : Frame) (steps : List Step) : Type 0 where
  pub own : AllByRecursion (IsTraffic id) steps
  pub stands : (before : List Step) → Stands id old now before
      → Always (IsServed id) before steps × Lends id new now (before ++ steps) frame

-- either, by what was taken
abbrev pub Taking : ℕ → ℕ → Kept → Kept → Option Frame → List Step → Type 0
Taking id now old new None steps = Advances id now old new steps
Taking id now old new (Some frame) steps = Lending id now old new frame steps

-- ---- in a turn

-- in this turn this many bytes of the connection were read, and this many of its frames handled
pub record InTurn (id read count : ℕ) (turn : List Step) : Type 0 where
  pub frames : length (handled id turn) ≡ count
  pub bytes : length (came id turn) ≡ read

-- nothing is written, the handler does not settle, and the loop does not wait
abbrev pub IsHearing : Step → Type 0
IsHearing (Happens (Waited limit)) = ⊥
IsHearing (Happens (Wrote id bytes)) = ⊥
IsHearing (Happens (Unwritten id)) = ⊥
IsHearing (Settles done) = ⊥
IsHearing _ = Unit {0}

-- in these steps this many more frames were handled, and nothing was written; in the turn so many bytes were read
-- before them, and so many behind them
pub record Turns (id read now_read more : ℕ) (steps : List Step) : Type 0 where
  pub goes : (count : ℕ) (turn : List Step) → InTurn id read count turn
      → InTurn id now_read (count + more) (turn ++ steps)
  pub handles : length (handled id steps) ≡ more
  pub hearing : AllByRecursion IsHearing steps

-- a read gave nothing, and all that was read is fed
pub record RanDry (peer : Peer) (steps : List Step) : Type 0 where
  pub nothing : Happened (Read peer.id []) steps
  pub no_frame : BeginsNoFrame (peer.feed.bytes ++ unread peer)

-- more may be read of it
abbrev pub may_be_read : Peer → Bool
may_be_read peer = is_none peer.leaving && nat_le (length peer.queue.bytes) 8388608

-- bytes of it wait to be handled, and may be
abbrev pub has_bytes : Peer → Bool
has_bytes peer = may_be_read peer && nat_lt peer.start peer.end

-- why no further frame of a connection is read in this turn, where this is its share
pub data Rests (share : ℕ) (peer : Peer) (count : ℕ) : Type 0 where
  ByLeaving : (is : IsSome peer.leaving) → Rests share peer count
  ByDrought : (is : peer.drained ≡ true) → Rests share peer count
  ByFrames : (is : count ≡ share) → Rests share peer count
  ByBytes : (is : share * 65536 ≤ peer.read) → Rests share peer count
  ByQueue : (is : 8388608 < length peer.queue.bytes) → Rests share peer count

-- it was looked at in this turn
pub record Looks (now : ℕ) (old new : Peer) (steps : List Step) : Type 0 where
  pub goes : Advances old.id now (kept_of old) (kept_of new) steps
  pub turns : Turns old.id 0 new.read 0 steps
  pub few : new.read ≤ 65536
  pub dry : new.drained ≡ true → RanDry new steps
  pub rests : has_bytes new ≡ false → (share count : ℕ) → Rests share new count
  pub counted : new.frames ≡ old.frames

-- so far in a turn, in which this many frames were handled
pub record HearsSo (now : ℕ) (old new : Peer) (count : ℕ) (steps : List Step) : Type 0 where
  pub goes : Advances old.id now (kept_of old) (kept_of new) steps
  pub turns : Turns old.id old.read new.read count steps
  pub counted : new.frames ≡ old.frames + count

-- its frames were handled
pub record HearsSome (now share : ℕ) (old new : Peer) (steps : List Step) : Type 0 where
  pub goes : Advances old.id now (kept_of old) (kept_of new) steps
  pub count : ℕ
  pub few : count ≤ share
  pub turns : Turns old.id old.read new.read count steps
  pub within : old.read < share * 65536 + 65536 → new.read < share * 65536 + 65536
  pub dry : new.drained ≡ true → RanDry new steps
  pub rests : Rests share new count
  pub counted : new.frames ≡ old.frames + count
  pub limited : new.frames ≤ frames_bound

-- the same where it had bytes; else nothing happened
pub record Hears (now share : ℕ) (old new : Peer) (steps : List Step) : Type 0 where
  pub goes : Advances old.id now (kept_of old) (kept_of new) steps
  pub count : ℕ
  pub few : count ≤ share
  pub had : 0 < count → has_bytes old ≡ true
  pub turns : Turns old.id old.read new.read count steps
  pub within : old.read < share * 65536 + 65536 → new.read < share * 65536 + 65536
  pub dry : (turn : List Step) → (old.drained ≡ true → RanDry old turn) → new.drained ≡ true
      → RanDry new (turn ++ steps)
  pub rests : ((other : ℕ) → has_bytes old ≡ false → Rests share old other) → Rests share new count
  pub counted : new.frames ≡ old.frames + count
  pub limited : new.frames ≤ frames_bound

-- ---- writing

-- the connection took what waited, or takes nothing more; or it is broken
abbrev pub Sends : Peer → List Step → Bool → Type 0
Sends peer steps true = (peer.queue.bytes ≡ []) ⊎ Happened (Wrote peer.id []) steps
Sends peer steps false = Happened (Unwritten peer.id) steps

-- it is over: all that waited was written, or memory ran out for a reply
abbrev pub is_over_for : ℕ → Option Departure → Bool
is_over_for waiting None = false
is_over_for waiting (Some departures.Memory) = true
is_over_for waiting (Some why) = waiting == 0

-- it is over, by its queue and the reason for which it is to leave
abbrev pub is_over : Peer → Bool
is_over peer = is_over_for (length peer.queue.bytes) peer.leaving

-- more may be read of it, and was not read in this turn
abbrev pub is_hungry : Peer → Bool
is_hungry peer = (is_none peer.leaving && not peer.drained) && nat_le (length peer.queue.bytes) 8388608

-- the connection stays open
pub record Stays (idle now : ℕ) (old new : Peer) (steps : List Step) : Type 0 where
  pub goes : Advances old.id now (kept_of old) (kept_of new) steps
  pub sends : Sends new steps true
  pub stays : is_over new ≡ false
  pub active : now - new.active < idle
  pub counts : IsCounted new.frames new.leaving

-- it is over, for this reason
pub record Departs (idle now : ℕ) (old new : Peer) (why : Departure) (steps : List Step) : Type 0 where
  pub own : AllByRecursion (IsTraffic old.id) steps
  pub stands : (before : List Step) → Stands old.id (kept_of old) now before
      → old.frames ≡ length (handled old.id before) → Always (IsServed old.id) before steps
      × ((held : List ℕ) × (queued : List ℕ) × Serves old.id (before ++ steps) held queued
      × Explains idle old.id (before ++ steps) held queued why)

-- what writing to it leaves
abbrev pub WritesOut : ℕ → ℕ → Peer → Peer → Option Departure → List Step → Type 0
WritesOut idle now old new None steps = Stays idle now old new steps
WritesOut idle now old new (Some why) steps = Departs idle now old new why steps

-- nothing of it is read, and no frame handled
pub record IsQuiet (id : ℕ) (steps : List Step) : Type 0 where
  pub nothing_came : came id steps ≡ []
  pub nothing_handled : handled id steps ≡ []

-- why a connection is over whose input ended behind these bytes
abbrev pub EndsAs : List ℕ → Departure → Type 0
EndsAs bytes departures.Closed = bytes ≡ []
EndsAs bytes (departures.Frame fault) = IsOfBytes fault × BeginsNoFrame bytes × (why bytes ≡ Err fault)
EndsAs bytes departures.Enough = ⊥
EndsAs bytes departures.Memory = ⊥
EndsAs bytes departures.Write = ⊥
EndsAs bytes departures.Idle = ⊥
EndsAs bytes departures.Stopped = ⊥
EndsAs bytes departures.Unsettled = ⊥
