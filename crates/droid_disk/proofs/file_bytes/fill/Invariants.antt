use Rattle.std.proofs.Common.{◌≤◌, ◌-◌, length}
use Rattle.droid_disk.proofs.file_bytes.fill.Given as goal

abbrev pub invariant-loop-filled : goal.invariant-loop-filled
invariant-loop-filled l = l.filled ≤ length l.buffer

-- each turn reads a byte
abbrev pub decreases-loop-filled : goal.decreases-loop-filled
decreases-loop-filled l = length l.initial.buffer - l.filled
