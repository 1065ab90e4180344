use Rattle.std.proofs.Common.{◌≡◌, ◌++◌, map, take}
use Rattle.droid_cmd_verify.specs.Findings.{unreadable_at}
use Rattle.droid_cmd_verify.proofs.finding.add_unreadable.Given as goal

abbrev pub invariant-loop-entry : goal.invariant-loop-entry
invariant-loop-entry l = l.findings.items ≡ l.fn.findings.items ++ map unreadable_at (take l.entry-index l.unreadable)
