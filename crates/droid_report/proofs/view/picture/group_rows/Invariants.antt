use Rattle.std.proofs.Common.{◌≡◌, map, take}
use Rattle.droid_report.specs.Pictures.{picture_row}
use Rattle.droid_report.specs.Seen.{rows_seen}
use Rattle.droid_report.proofs.view.picture.group_rows.Given as goal

-- those so far have their rows
abbrev pub invariant-loop-group : goal.invariant-loop-group
invariant-loop-group l = rows_seen l.lines.items ≡ map (picture_row l.measure l.most) (take l.group-index l.groups)
