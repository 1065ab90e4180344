-- The first lines were sent, and the streams lasted.
use Rattle.std.proofs.Common.{◌≡◌, ◌≤◌, None}
use Rattle.std.specs.Io.KnownBytes.{prepend_known}
use Rattle.droid_frame.specs.Seen.{Counts, IsSound}
use Rattle.droid_frame.proofs.InTurn.{OverItems}
use Rattle.droid_lines.specs.Along.{ReadsReply, WritesPrinted, WritesRequest}
use Rattle.droid_lines.proofs.Sent.{SoFar}
use Rattle.droid_lines.proofs.sender.send.Given as goal

abbrev pub invariant-loop : goal.invariant-loop
invariant-loop g l = record {
  so_far : SoFar l.fn.client (g.L.Read.remaining l.fn.lines) (prepend_known l.reader (g.L.Read.remaining l.lines)) (g.R.Read.remaining l.fn.replies) (g.R.Read.remaining l.replies)
      (g.F.Write.contents l.fn.frames) (g.F.Write.contents l.frames) (g.T.Write.contents l.fn.text) (g.T.Write.contents l.text) l.client l.tally;
  counted : l.tally.lines ≡ l.counter;
  bad : l.tally.bad ≤ l.tally.lines;
  reads : IsSound (g.L.SteadyRead.seen l.fn.lines) → Counts (g.L.SteadyRead.seen l.fn.lines).interruptions (g.L.SteadyRead.seen l.lines) l.retries;
  hears : IsSound (g.R.SteadyRead.seen l.fn.replies) → OverItems g.R.SteadyRead.seen (ReadsReply g.R.Read.remaining) l.fn.replies l.replies l.tally.lines;
  sends : IsSound (g.F.SteadyWrite.seen l.fn.frames) → g.F.SteadyWrite.room l.fn.frames ≡ None →
      OverItems g.F.SteadyWrite.seen (WritesRequest g.F.Write.contents) l.fn.frames l.frames l.tally.lines × (g.F.SteadyWrite.room l.frames ≡ None);
  prints : IsSound (g.T.SteadyWrite.seen l.fn.text) → g.T.SteadyWrite.room l.fn.text ≡ None →
      OverItems g.T.SteadyWrite.seen (WritesPrinted g.T.Write.contents) l.fn.text l.text l.tally.lines × (g.T.SteadyWrite.room l.text ≡ None);
}
