use Rattle.std.proofs.Common.{◌≡◌, ◌++◌, map}
use Rattle.droid_report.specs.Ranks.{group_seen, groups_in}
use Rattle.droid_report.proofs.ranks.list_groups.Given as goal

-- the groups so far, and those of what is left, are those of all
abbrev pub invariant-loop-key : goal.invariant-loop-key
invariant-loop-key l = map group_seen l.all.items ++ groups_in l.least l.key-iterator ≡ groups_in l.least l.groups.entries
