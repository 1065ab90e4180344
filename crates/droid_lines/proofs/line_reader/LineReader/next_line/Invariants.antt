use Rattle.std.proofs.Common.{◌+◌, ◌-◌, ◌^◌, ℕ, length}
use Rattle.std.specs.Io.KnownBytes.{Consumes, prepend_known}
use Rattle.droid_frame.specs.Seen.{Counts}
use Rattle.droid_lines.specs.Reading.{HasNoFeed}
use Rattle.droid_lines.proofs.line_reader.LineReader.next_line.Given as goal

-- the line so far went over, and has no line feed
abbrev pub invariant-loop-line : goal.invariant-loop-line
invariant-loop-line g l = record {
  came : Consumes (prepend_known l.fn.self (g.L.Read.remaining l.fn.reader)) (prepend_known l.self (g.L.Read.remaining l.reader)) l.line.items;
  plain : HasNoFeed l.line.items;
  counts : (start : ℕ) → Counts start (g.L.SteadyRead.seen l.fn.reader) l.fn.retries → Counts start (g.L.SteadyRead.seen l.reader) l.retries;
}

-- each turn reads a byte
abbrev pub decreases-loop-line : goal.decreases-loop-line
decreases-loop-line g l = 2 ^ 64 - (length l.line.items + length l.self)
