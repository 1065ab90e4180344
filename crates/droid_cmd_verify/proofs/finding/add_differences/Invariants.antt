use Rattle.std.proofs.Common.{◌≡◌, ◌++◌, filter, map, take}
use Rattle.droid_cmd_verify.specs.Findings.{difference_at, is_reported}
use Rattle.droid_cmd_verify.proofs.finding.add_differences.Given as goal

abbrev pub invariant-loop-difference : goal.invariant-loop-difference
invariant-loop-difference l = l.findings.items ≡ l.fn.findings.items ++ map (difference_at l.listed l.found) (filter (is_reported l.how l.found) (take l.difference-index l.differences))
