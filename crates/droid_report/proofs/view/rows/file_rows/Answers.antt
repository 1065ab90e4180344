use Rattle.std.proofs.Common.{◌∙◌, ap}
use Rattle.droid_report.specs.ShownTables.{file_row}
use Rattle.droid_report.specs.Seen.{rows_seen}
use Rattle.droid_report.proofs.RowSteps.{row_for}
use Rattle.droid_report.proofs.view.rows.file_rows.Goals as goal

pub loop-row-preserved : goal.loop-row-preserved
loop-row-preserved c =
    ap rows_seen c.in_ok-push.ensures.items
    ∙ row_for file_row c.args.rows.now c.loop-row.row-index c.row-item.result c.loop-row.lines.items c.in_ok-line.line c.loop-row-test.true c.loop-row.invariant (c.in_ok-line.ensures ∙ ap file_row c.row-item.is)
