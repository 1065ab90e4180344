-- What happens between the loop and its connections (this project's own). A connection has a number, under which it was
-- accepted; none has the number of another.
use Rattle.std.specs.Prelude.{ℕ, ◌≤◌, List, [], take}
use Rattle.droid_turns.specs.declared.connections.Came.{Came}
use Rattle.droid_turns.specs.declared.connections.Came.TheVariants as came
use Rattle.droid_turns.specs.declared.connections.Took.{Took}
use Rattle.droid_turns.specs.declared.connections.Took.TheVariants as took
use Rattle.droid_turns.specs.declared.departure.Departure.{Departure}

-- each with the number of the connection that it is about
pub data Event : Type 0 where
  -- a wait of at most this many milliseconds is over
  Waited : (limit : ℕ) → Event
  -- waiting failed
  Unwaited : Event
  -- the clock was read, in milliseconds
  Timed : (time : ℕ) → Event
  -- a connection was accepted
  Opened : (id : ℕ) → Event
  -- no connection waits to be accepted
  NoneOpened : Event
  -- these bytes were read from a connection; none: nothing is there yet
  Read : (id : ℕ) (bytes : List ℕ) → Event
  -- the input of a connection ended
  Ended : (id : ℕ) → Event
  -- a connection could not be read
  Unread : (id : ℕ) → Event
  -- a connection took these bytes; none: it takes nothing yet
  Wrote : (id : ℕ) (bytes : List ℕ) → Event
  -- a connection could not be written
  Unwritten : (id : ℕ) → Event
  -- a connection was closed, for this reason
  Closed : (id : ℕ) (why : Departure) → Event

-- what a read is
abbrev pub read_event : ℕ → List ℕ → Came → Event
read_event id buffer (came.Bytes count) = Read id (take count buffer)
read_event id buffer came.Nothing = Read id []
read_event id buffer came.End = Ended id
read_event id buffer came.Broken = Unread id

-- what a write of these bytes is
abbrev pub write_event : ℕ → List ℕ → Took → Event
write_event id bytes (took.Bytes count) = Wrote id (take count bytes)
write_event id bytes took.Nothing = Wrote id []
write_event id bytes took.Broken = Unwritten id

-- no more bytes came than there is room for
abbrev pub CameWithin : Came → ℕ → Type 0
CameWithin (came.Bytes count) room = count ≤ room
CameWithin came.Nothing room = Unit {0}
CameWithin came.End room = Unit {0}
CameWithin came.Broken room = Unit {0}

-- no more bytes were taken than were offered
abbrev pub TookWithin : Took → ℕ → Type 0
TookWithin (took.Bytes count) size = count ≤ size
TookWithin took.Nothing size = Unit {0}
TookWithin took.Broken size = Unit {0}
