use Rattle.std.proofs.Common.{◌≡◌, ◌≤◌, ◌-◌, ◌++◌, ℕ, List, take, drop}
use Rattle.droid_journal.proofs.disk.disk_log.save_end.Given as goal

abbrev pub invariant-loop : goal.invariant-loop
invariant-loop g l = record {
  above : l.from ≤ l.at;
  saved : (s : List ℕ) → g.D.Drive.has l.fn.drive s → g.D.Drive.has l.drive s × ((front : List ℕ) × (g.D.Drive.saved l.drive ≡ front ++ take (l.at - l.from) (drop l.from s)));
  no_other : (s : List ℕ) → g.D.Drive.has l.drive s → g.D.Drive.has l.fn.drive s;
  kept : g.D.Drive.kept l.drive ≡ g.D.Drive.kept l.fn.drive;
  found : g.D.Drive.is_found l.fn.drive → g.D.Drive.is_found l.drive;
  stays : g.D.Drive.failed l.fn.drive → g.D.Drive.failed l.drive;
}
