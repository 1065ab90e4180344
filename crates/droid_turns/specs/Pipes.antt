-- One connection over a reader and a writer (this project's own).
use Rattle.std.specs.Prelude.{◌≡◌, ◌⊎◌, ℕ, ◌==◌, if◌then◌else◌, List, [], Option, Some, fold, take}
use Rattle.std.specs.Io.KnownBytes.{Appends, Consumes, IsAtEnd}
use Rattle.droid_frame.specs.Seen.{Counts, GivesUp}
use Rattle.droid_frame.specs.Writes.{WriterStops}
use Rattle.droid_frame.specs.declared.io.stream_record.Seen.{Seen}
use Rattle.droid_turns.specs.Events.{Event, Closed, Ended, Opened, Read, Unread, Unwritten, Wrote}
use Rattle.droid_turns.specs.Steps.{Happens, Step, came, went}
use Rattle.droid_turns.specs.Turns.{ServesAll}
use Rattle.droid_turns.specs.declared.connections.Came.{Came}
use Rattle.droid_turns.specs.declared.connections.Came.TheVariants as came_as
use Rattle.droid_turns.specs.declared.connections.Took.{Took}
use Rattle.droid_turns.specs.declared.connections.Took.TheVariants as took_as
use Rattle.droid_turns.specs.declared.departure.Departure.{Departure}
use Rattle.droid_turns.specs.declared.rules.Rules.{Rules}
use Rattle.droid_turns.specs.declared.service_end.Served.{Served}
use Rattle.droid_turns.specs.declared.pipe.Pipe.{Pipe}

-- what a read did to the reader
abbrev pub CameSo : Option (List ℕ) → Option (List ℕ) → List ℕ → Came → Type 0
CameSo old new buffer (came_as.Bytes count) = Consumes old new (take count buffer)
CameSo old new buffer came_as.Nothing = Consumes old new []
CameSo old new buffer came_as.End = Consumes old new [] × IsAtEnd new
CameSo old new buffer came_as.Broken = Consumes old new []

-- what a write did to the writer
abbrev pub TookSo : Option (List ℕ) → Option (List ℕ) → List ℕ → Took → Type 0
TookSo old new bytes (took_as.Bytes count) = Appends old new (take count bytes)
TookSo old new bytes took_as.Nothing = Appends old new []
TookSo old new bytes took_as.Broken = Appends old new []

-- A read calls the reader broken exactly where it failed, or was interrupted for the 65th time, within this read.
abbrev pub ReadsAs : ℕ → Seen → Came → Type 0
ReadsAs start seen came_as.Broken = GivesUp start seen
ReadsAs start seen _ = (count : ℕ) × Counts start seen count

-- the same of a write, whose writer may also be full
abbrev pub WritesAs : ℕ → Seen → Option ℕ → Took → Type 0
WritesAs start seen room took_as.Broken = WriterStops start seen room
WritesAs start seen room _ = (count : ℕ) × Counts start seen count

-- what an event says of the reader: `Unread` stands for a broken one
abbrev pub ReaderIs : ℕ → Seen → Event → Type 0
ReaderIs start seen (Unread id) = GivesUp start seen
ReaderIs start seen _ = (count : ℕ) × Counts start seen count

-- what an event says of the writer: `Unwritten` stands for a broken one
abbrev pub WriterIs : ℕ → Seen → Option ℕ → Event → Type 0
WriterIs start seen room (Unwritten id) = WriterStops start seen room
WriterIs start seen room _ = (count : ℕ) × Counts start seen count

-- the bytes that an event takes of the reader
abbrev pub taken : Event → List ℕ
taken (Read id bytes) = bytes
taken _ = []

-- the bytes that an event gives to the writer
abbrev pub given : Event → List ℕ
given (Wrote id bytes) = bytes
given _ = []

-- there is one connection, with the number 0: no other is accepted, and no byte is of another
abbrev pub IsOfOne : Event → Type 0
IsOfOne (Opened id) = id ≡ 0
IsOfOne (Read id bytes) = (id ≡ 0) ⊎ (bytes ≡ [])
IsOfOne (Wrote id bytes) = (id ≡ 0) ⊎ (bytes ≡ [])
IsOfOne _ = Unit {0}

-- its input ends where nothing is left to be read
abbrev pub EndsThere : Option (List ℕ) → Event → Type 0
EndsThere left (Ended id) = IsAtEnd left
EndsThere left _ = Unit {0}

-- why the connection was closed
abbrev pub left_by : Event → Option Departure → Option Departure
left_by (Closed id why) before = if id == 0 then Some why else before
left_by _ before = before

-- what an event does
pub record PipeDoes {R W : Type 0} (remaining : R → Option (List ℕ)) (contents : W → Option (List ℕ))
    (was_read : R → Seen) (was_written : W → Seen) (room : W → Option ℕ) (old : Pipe R W) (event : Event)
    (new : Pipe R W) : Type 0 where
  pub read : Consumes (remaining old.reader) (remaining new.reader) (taken event)
  pub written : Appends (contents old.writer) (contents new.writer) (given event)
  pub one : IsOfOne event
  pub ends : EndsThere (remaining new.reader) event
  pub left : new.departure ≡ left_by event old.departure
  pub reader : (start : ℕ) → Counts start (was_read old.reader) 0 → ReaderIs start (was_read new.reader) event
  pub writer : (start : ℕ) → Counts start (was_written old.writer) 0
      → WriterIs start (was_written new.writer) (room new.writer) event

-- one connection, which may be idle for ever
abbrev pub rules_of_one : Rules
rules_of_one = record { seats = 1; total = Some 1; idle = 18446744073709551615 }

-- why the connection was closed, behind a step
abbrev pub left_behind : Option Departure → Step → Option Departure
left_behind before (Happens event) = left_by event before
left_behind before _ = before

-- The loop served one connection. What came from it was read, what it took was written, and nothing else. It is known
-- why it was closed.
pub record AnswersOne (left left_now wrote wrote_now : Option (List ℕ)) (departure departure_now : Option Departure)
    (result : Served) (steps : List Step) : Type 0 where
  pub serves : ServesAll rules_of_one result steps
  pub read : Consumes left left_now (came 0 steps)
  pub written : Appends wrote wrote_now (went 0 steps)
  pub departed : departure_now ≡ fold left_behind departure steps
