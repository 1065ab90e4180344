use Rattle.std.proofs.Common.{◌∙◌, [], ap}
use Rattle.droid_report.specs.declared.ranks.Group.{Group}
use Rattle.droid_report.specs.ShownTables.{format_row}
use Rattle.droid_report.specs.Seen.{rows_seen}
use Rattle.droid_report.proofs.RowSteps.{row_for}
use Rattle.droid_report.proofs.view.rows.format_rows.Goals as goal

-- what stands past the last group
abbrev past : Group
past = record { key = record { ref_ptr = (0, 0); now = [] }; label = record { ref_ptr = (0, 0); now = [] }; count = 0; bytes = 0; saved = 0 }

pub loop-format-preserved : goal.loop-format-preserved
loop-format-preserved c =
    ap rows_seen c.in_ok-push.ensures.items
    ∙ row_for format_row c.args.formats.now c.loop-format.format-index past c.loop-format.lines.items c.in_ok-line.line c.loop-format-test.true c.loop-format.invariant c.in_ok-line.ensures
