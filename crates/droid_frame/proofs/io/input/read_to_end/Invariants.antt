use Rattle.std.proofs.Common.{◌≤◌, ◌-◌, ℕ, length}
use Rattle.std.specs.Io.KnownBytes.{Consumes}
use Rattle.droid_frame.specs.Seen.{Counts}
use Rattle.droid_frame.proofs.io.input.read_to_end.Given as goal

-- the input so far is what the reader lost
abbrev pub invariant-loop-input : goal.invariant-loop-input
invariant-loop-input g l = record {
  within : length l.input.items ≤ l.limit;
  came : Consumes (g.R.Read.remaining l.fn.reader) (g.R.Read.remaining l.reader) l.input.items;
  counts : (start : ℕ) → Counts start (g.R.SteadyRead.seen l.fn.reader) 0 → Counts start (g.R.SteadyRead.seen l.reader) l.retries;
}

-- each turn reads a byte
abbrev pub decreases-loop-input : goal.decreases-loop-input
decreases-loop-input g l = l.limit - length l.input.items
