use Rattle.std.proofs.Common.{◌≡◌, ◌≤◌, ◌-◌, ◌++◌, ℕ, List, length, take}
use Rattle.droid_journal.proofs.disk.disk_log.write_all.Given as goal

abbrev pub invariant-loop-written : goal.invariant-loop-written
invariant-loop-written g l = record {
  within : l.written ≤ length l.bytes;
  has : (s : List ℕ) → g.D.Drive.has l.fn.drive s → g.D.Drive.has l.drive (s ++ take l.written l.bytes);
  kept : g.D.Drive.kept l.drive ≡ g.D.Drive.kept l.fn.drive;
  stays : g.D.Drive.failed l.fn.drive → g.D.Drive.failed l.drive;
}

abbrev pub decreases-loop-written : goal.decreases-loop-written
decreases-loop-written g l = length l.bytes - l.written
