use Rattle.std.proofs.Common.{◌≡◌, map, take}
use Rattle.droid_report.specs.ShownTables.{file_row}
use Rattle.droid_report.specs.Seen.{rows_seen}
use Rattle.droid_report.proofs.view.rows.file_rows.Given as goal

-- those so far have their rows
abbrev pub invariant-loop-row : goal.invariant-loop-row
invariant-loop-row l = rows_seen l.lines.items ≡ map file_row (take l.row-index l.rows)
