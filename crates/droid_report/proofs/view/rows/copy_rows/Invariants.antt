use Rattle.std.proofs.Common.{◌≡◌, map, take}
use Rattle.droid_report.specs.ShownTables.{copy_row}
use Rattle.droid_report.specs.Seen.{rows_seen}
use Rattle.droid_report.proofs.view.rows.copy_rows.Given as goal

-- those so far have their rows
abbrev pub invariant-loop-group : goal.invariant-loop-group
invariant-loop-group l = rows_seen l.lines.items ≡ map copy_row (take l.group-index l.groups)
