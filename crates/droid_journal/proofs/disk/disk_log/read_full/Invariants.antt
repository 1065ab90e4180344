use Rattle.std.proofs.Common.{◌≡◌, ◌≤◌, ◌-◌, ℕ, List, length, take, drop}
use Rattle.droid_journal.proofs.disk.disk_log.read_full.Given as goal

-- the front of the buffer is what the file has there
abbrev pub invariant-loop-count : goal.invariant-loop-count
invariant-loop-count g l = record {
  size : length l.buffer ≡ length l.fn.buffer;
  within : l.count ≤ length l.buffer;
  read : (s : List ℕ) → g.D.Drive.has l.drive s → (take l.count l.buffer ≡ take l.count (drop l.at s)) × (l.count ≤ length (drop l.at s));
}

-- each turn reads a byte
abbrev pub decreases-loop-count : goal.decreases-loop-count
decreases-loop-count g l = length l.initial.buffer - l.count
