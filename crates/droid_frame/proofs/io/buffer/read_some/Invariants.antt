use Rattle.std.proofs.Common.{◌-◌, ℕ}
use Rattle.std.specs.Io.KnownBytes.{Keeps}
use Rattle.droid_frame.specs.Seen.{Counts}
use Rattle.droid_frame.proofs.io.buffer.read_some.Given as goal

-- interruptions have read nothing, and all are counted
abbrev pub invariant-loop-count : goal.invariant-loop-count
invariant-loop-count g l = record {
  kept : Keeps (g.R.Read.remaining l.fn.reader) (g.R.Read.remaining l.reader);
  counts : (start : ℕ) → Counts start (g.R.SteadyRead.seen l.fn.reader) l.fn.retries → Counts start (g.R.SteadyRead.seen l.reader) l.retries;
}

-- each turn counts an interruption
abbrev pub decreases-loop-count : goal.decreases-loop-count
decreases-loop-count g l = 64 - l.retries
