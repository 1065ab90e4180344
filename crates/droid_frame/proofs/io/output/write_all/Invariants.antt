use Rattle.std.proofs.Common.{◌≡◌, ◌-◌, ◌+◌, ℕ, length, take}
use Rattle.std.specs.Io.KnownBytes.{Appends}
use Rattle.droid_frame.specs.Seen.{Counts}
use Rattle.droid_frame.specs.Writes.{Takes}
use Rattle.droid_frame.proofs.Parts.{IsEnd}
use Rattle.droid_frame.proofs.io.output.write_all.Given as goal

-- the bytes are what went out and the rest
abbrev pub invariant-loop-rest : goal.invariant-loop-rest
invariant-loop-rest g l = record {
  written : Appends (g.W.Write.contents l.fn.writer) (g.W.Write.contents l.writer) (take (length l.bytes - length l.rest) l.bytes);
  rest : IsEnd l.bytes l.rest;
  room : Takes (g.W.SteadyWrite.room l.fn.writer) (g.W.SteadyWrite.room l.writer) (length l.bytes - length l.rest);
  counts : (start : ℕ) → Counts start (g.W.SteadyWrite.seen l.fn.writer) l.fn.progress.retries → Counts start (g.W.SteadyWrite.seen l.writer) l.progress.retries;
  counted : l.progress.written + length l.rest ≡ l.fn.progress.written + length l.bytes;
}

-- each turn writes a byte
abbrev pub decreases-loop-rest : goal.decreases-loop-rest
decreases-loop-rest g l = length l.rest
