use Rattle.std.specs.Prelude.{ℕ, []}
use Rattle.std.specs.Io.KnownBytes.{Appends}
use Rattle.droid_frame.specs.Seen.{Counts}
use Rattle.droid_turns.proofs.Tries.{Tried}
use Rattle.droid_turns.proofs.pipe.write_to.Given as goal

-- interruptions have written nothing, and each was counted
abbrev pub invariant-loop-tried : goal.invariant-loop-tried
invariant-loop-tried g l = record {
  none : Appends (g.W.Write.contents l.fn.writer) (g.W.Write.contents l.writer) [];
  counts : (start : ℕ) → Counts start (g.W.SteadyWrite.seen l.fn.writer) 0 → Tried start (g.W.SteadyWrite.seen l.writer) l.tried;
}
