use Rattle.std.proofs.Common.{◌≤◌, ◌-◌, ℕ, length, take}
use Rattle.std.specs.Io.KnownBytes.{Consumes}
use Rattle.droid_frame.specs.Seen.{Counts}
use Rattle.droid_frame.proofs.io.buffer.fill.Given as goal

-- the front of the buffer is what came so far
abbrev pub invariant-loop-filled : goal.invariant-loop-filled
invariant-loop-filled g l = record {
  within : l.filled ≤ length l.buffer;
  came : Consumes (g.R.Read.remaining l.fn.reader) (g.R.Read.remaining l.reader) (take l.filled l.buffer);
  counts : (start : ℕ) → Counts start (g.R.SteadyRead.seen l.fn.reader) l.fn.retries → Counts start (g.R.SteadyRead.seen l.reader) l.retries;
}

-- each turn reads a byte
abbrev pub decreases-loop-filled : goal.decreases-loop-filled
decreases-loop-filled g l = length l.initial.buffer - l.filled
