-- Counts of connections and bytes (this project's own).
use Rattle.std.specs.Prelude.{ℕ, ◌+◌, length, min}
use Rattle.droid_turns.specs.Events.{Event, Opened, Read, Wrote, Closed}
use Rattle.droid_sockets.specs.declared.tally.Tally.{Tally}

-- a sum, but no more than 2^64 - 1
abbrev pub counted : ℕ → ℕ → ℕ
counted number more = min (number + more) 18446744073709551615

-- the counts after an event
abbrev pub after : Tally → Event → Tally
after tally (Opened id) = record tally { opened = counted tally.opened 1 }
after tally (Closed id why) = record tally { closed = counted tally.closed 1 }
after tally (Read id bytes) = record tally { came = counted tally.came (length bytes) }
after tally (Wrote id bytes) = record tally { went = counted tally.went (length bytes) }
after tally _ = tally
