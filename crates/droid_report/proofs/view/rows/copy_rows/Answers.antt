use Rattle.std.proofs.Common.{◌∙◌, [], ap}
use Rattle.droid_report.specs.declared.ranks.Group.{Group}
use Rattle.droid_report.specs.ShownTables.{copy_row}
use Rattle.droid_report.specs.Seen.{rows_seen}
use Rattle.droid_report.proofs.RowSteps.{row_for}
use Rattle.droid_report.proofs.view.rows.copy_rows.Goals as goal

-- what stands past the last group
abbrev past : Group
past = record { key = record { ref_ptr = (0, 0); now = [] }; label = record { ref_ptr = (0, 0); now = [] }; count = 0; bytes = 0; saved = 0 }

pub loop-group-preserved : goal.loop-group-preserved
loop-group-preserved c =
    ap rows_seen c.in_ok-push.ensures.items
    ∙ row_for copy_row c.args.groups.now c.loop-group.group-index past c.loop-group.lines.items c.in_ok-line.line c.loop-group-test.true c.loop-group.invariant c.in_ok-line.ensures
