use Rattle.std.proofs.Common.{◌≡◌, map, take}
use Rattle.droid_report.specs.ShownTables.{format_row}
use Rattle.droid_report.specs.Seen.{rows_seen}
use Rattle.droid_report.proofs.view.rows.format_rows.Given as goal

-- those so far have their rows
abbrev pub invariant-loop-format : goal.invariant-loop-format
invariant-loop-format l = rows_seen l.lines.items ≡ map format_row (take l.format-index l.formats)
