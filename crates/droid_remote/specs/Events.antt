-- What happens on a connection, and what is then a fact of the connection that stands (this project's own).
use Rattle.std.specs.Prelude.{◌≡◌, List, [], ◌∷◌, ◌++◌}
use Rattle.droid_frame.specs.declared.frame.Frame.{Frame}

-- one event of a connection
pub data Event : Type 0 where
  -- a new connection was made
  Joined : Event
  -- no connection could be made
  Alone : Event
  -- this frame was written
  Sent : (frame : Frame) → Event
  -- this frame was written in part, or not at all
  Cut : (frame : Frame) → Event
  -- this frame was read
  Came : (frame : Frame) → Event
  -- no frame could be read
  Lost : Event
  -- the connection, if there was one, was given up, and then the client waited a while
  Paused : Event
  -- the connection, if there was one, was given up, and the time that may be waited is over
  Expired : Event
  -- the time that may be waited was started anew
  Started : Event

-- what is known of the connection that stands
pub data Fact : Type 0 where
  -- this frame was written, whole, on the connection that stands
  Written : (frame : Frame) → Fact
  -- this frame was read on it
  Received : (frame : Frame) → Fact

-- the facts after an event: a connection that is made, breaks or is given up has none
abbrev pub facts_behind : List Fact → Event → List Fact
facts_behind facts (Sent frame) = facts ++ Written frame ∷ []
facts_behind facts (Came frame) = facts ++ Received frame ∷ []
facts_behind facts Started = facts
facts_behind facts _ = []

-- the facts after these events
abbrev pub facts_after : List Fact → List Event → List Fact
facts_after facts [] = facts
facts_after facts (event ∷ events) = facts_after (facts_behind facts event) events

-- the events end with these
abbrev pub EndsIn : List Event → List Event → Type 0
EndsIn events last = (before : List Event) × (events ≡ before ++ last)
