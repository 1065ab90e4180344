use Rattle.std.proofs.Common.{◌≡◌, ◌++◌, filter, map, take}
use Rattle.droid_cmd_verify.specs.Compared.{is_unchecked}
use Rattle.droid_cmd_verify.specs.Findings.{unchecked_at}
use Rattle.droid_cmd_verify.proofs.finding.add_unchecked.Given as goal

abbrev pub invariant-loop-pair : goal.invariant-loop-pair
invariant-loop-pair l = l.findings.items ≡ l.fn.findings.items ++ map (unchecked_at l.listed) (filter (is_unchecked l.how l.listed l.found) (take l.pair-index l.pairs))
