use Rattle.std.proofs.Common.{◌≡◌, take}
use Rattle.droid_report.specs.ShownClasses.{class_row, flat_map_at}
use Rattle.droid_report.specs.Seen.{rows_seen}
use Rattle.droid_report.proofs.view.class_rows.all_rows.Given as goal

-- the classes so far have their rows
abbrev pub invariant-loop-class : goal.invariant-loop-class
invariant-loop-class l = rows_seen l.lines.items ≡ flat_map_at (class_row l.by l.most) 0 (take l.class l.counts)
