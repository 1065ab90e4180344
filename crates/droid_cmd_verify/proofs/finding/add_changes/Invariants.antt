use Rattle.std.proofs.Common.{◌≡◌, ◌++◌, map, take}
use Rattle.droid_cmd_verify.specs.Findings.{format_at}
use Rattle.droid_cmd_verify.proofs.finding.add_changes.Given as goal

abbrev pub invariant-loop-change : goal.invariant-loop-change
invariant-loop-change l = l.findings.items ≡ l.fn.findings.items ++ map format_at (take l.change-index l.changes)
