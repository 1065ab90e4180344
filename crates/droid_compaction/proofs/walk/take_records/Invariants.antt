use Rattle.std.proofs.Common.{length}
use Rattle.droid_compaction.specs.Sums.{AreSumsIn}
use Rattle.droid_compaction.proofs.Going.{Going}
use Rattle.droid_compaction.proofs.walk.take_records.Given as goal

abbrev pub invariant-loop-found : goal.invariant-loop-found
invariant-loop-found g l = record {
  going : Going g.T.Taker.took l.key l.fn.from l.bytes l.fn.taker l.rest l.place l.taker;
  sums : AreSumsIn l.key.form l.rest l.sums;
}

abbrev pub decreases-loop-found : goal.decreases-loop-found
decreases-loop-found g l = length l.rest
