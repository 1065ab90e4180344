use Rattle.std.proofs.Common.{◌≡◌, ℕ, List, length}
use Rattle.droid_journal.specs.Records.{Record}
use Rattle.droid_journal.specs.Opening.{Hands, StandIn}
use Rattle.droid_journal.proofs.file_records.hand_all.Given as goal

abbrev pub invariant-loop : goal.invariant-loop
invariant-loop g l = record {
  window : length l.buffer ≡ 16777216;
  so_far : (its : List Record) × Hands g.M.Machine.stands g.M.Machine.gives l.key l.fn.machine l.fn.from l.machine l.place its × ((s : List ℕ) → g.F.LogFile.has l.file s → StandIn l.key s l.fn.from l.place its);
}
