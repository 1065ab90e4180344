use Rattle.std.proofs.Common.{◌-◌, ℕ}
use Rattle.std.specs.Io.KnownBytes.{Keeps}
use Rattle.droid_frame.specs.Seen.{Counts}
use Rattle.droid_frame.specs.Writes.{Takes}
use Rattle.droid_frame.proofs.io.output.write_some.Given as goal

-- interruptions have written nothing, and all are counted
abbrev pub invariant-loop-count : goal.invariant-loop-count
invariant-loop-count g l = record {
  kept : Keeps (g.W.Write.contents l.fn.writer) (g.W.Write.contents l.writer);
  room : Takes (g.W.SteadyWrite.room l.fn.writer) (g.W.SteadyWrite.room l.writer) 0;
  counts : (start : ℕ) → Counts start (g.W.SteadyWrite.seen l.fn.writer) l.fn.retries → Counts start (g.W.SteadyWrite.seen l.writer) l.retries;
}

-- each turn counts an interruption
abbrev pub decreases-loop-count : goal.decreases-loop-count
decreases-loop-count g l = 64 - l.retries
