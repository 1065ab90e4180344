-- The first identifiers went out, and they are counted.
use Rattle.std.proofs.Common.{◌≡◌, ◌+◌, ℕ, length, take}
use Rattle.std.specs.Io.KnownBytes.{Appends}
use Rattle.droid_frame.specs.Seen.{Counts}
use Rattle.droid_frame.specs.Writes.{Takes}
use Rattle.droid_frame.specs.TextLists.{texts_bytes}
use Rattle.droid_frame.proofs.streams.reply_writer.write_puids.Given as goal

abbrev pub invariant-loop-puid : goal.invariant-loop-puid
invariant-loop-puid g l = record {
  sent : Appends (g.W.Write.contents l.fn.writer) (g.W.Write.contents l.writer) (texts_bytes (take l.puid-index l.puid-items));
  counted : l.progress.written ≡ l.fn.progress.written + length (texts_bytes (take l.puid-index l.puid-items));
  room : Takes (g.W.SteadyWrite.room l.fn.writer) (g.W.SteadyWrite.room l.writer) (length (texts_bytes (take l.puid-index l.puid-items)));
  counts : (start : ℕ) → Counts start (g.W.SteadyWrite.seen l.fn.writer) l.fn.progress.retries → Counts start (g.W.SteadyWrite.seen l.writer) l.progress.retries;
}
