use Rattle.std.proofs.Common.{◌≡◌, ◌++◌, ◌-◌, ◌^◌, ℕ, List, length}
use Rattle.std.specs.Io.KnownBytes.{Consumes}
use Rattle.droid_frame.specs.RunningHashes.{HoldsAll, running_kind}
use Rattle.droid_cmd_identify.specs.StreamEnds.{KeepsEnds}
use Rattle.droid_cmd_identify.proofs.stream_ends.take_stream.Given as goal

-- these bytes came so far
abbrev pub invariant-loop-count : goal.invariant-loop-count
invariant-loop-count g l = record {
  seen : List ℕ;
  came : Consumes (g.R.Read.remaining l.fn.reader) (g.R.Read.remaining l.reader) seen;
  counted : length seen ≡ l.size;
  keeps : KeepsEnds l.limit seen l.ends.first.items l.ends.rest.items;
  holds : (before : List ℕ) → HoldsAll l.fn.running before → HoldsAll l.running (before ++ seen);
  kind : running_kind l.running ≡ running_kind l.fn.running;
}

-- each turn reads a byte
abbrev pub decreases-loop-count : goal.decreases-loop-count
decreases-loop-count g l = 2 ^ 64 - l.size
