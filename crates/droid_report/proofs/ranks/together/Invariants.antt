use Rattle.std.proofs.Common.{◌≡◌, take}
use Rattle.droid_report.specs.Ranks.{together}
use Rattle.droid_report.proofs.ranks.together.Given as goal

-- the groups so far
abbrev pub invariant-loop-group : goal.invariant-loop-group
invariant-loop-group l = l.sum ≡ together (take l.group-index l.groups)
