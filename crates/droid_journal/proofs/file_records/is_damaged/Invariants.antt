use Rattle.std.proofs.Common.{◌≡◌, ◌≤◌, ℕ, List, length}
use Rattle.droid_journal.proofs.Handing.{NoneBelow}
use Rattle.droid_journal.proofs.file_records.is_damaged.Given as goal

abbrev pub invariant-loop : goal.invariant-loop
invariant-loop g l = record {
  window : length l.buffer ≡ 16777216;
  above : l.from ≤ l.at;
  none : (s : List ℕ) → g.F.LogFile.has l.file s → NoneBelow l.key s l.from l.at;
}
