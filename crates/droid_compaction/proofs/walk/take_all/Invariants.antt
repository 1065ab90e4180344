use Rattle.std.proofs.Common.{◌≡◌, ℕ, List, length}
use Rattle.droid_journal.specs.Records.{Record}
use Rattle.droid_compaction.specs.Taking.{Passes, StandIn}
use Rattle.droid_compaction.proofs.walk.take_all.Given as goal

abbrev pub invariant-loop : goal.invariant-loop
invariant-loop g l = record {
  window : length l.buffer ≡ 16777216;
  so_far : (its : List Record) × Passes g.T.Taker.took l.key l.fn.taker l.fn.from l.taker l.place its × ((s : List ℕ) → g.F.LogFile.has l.file s → StandIn l.key s l.fn.from l.place its);
}
