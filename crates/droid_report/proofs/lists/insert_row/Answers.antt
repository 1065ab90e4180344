use Rattle.std.proofs.Common.{◌∙◌, ap}
use Rattle.std.specs.List.{insert}
use Rattle.droid_report.specs.Lines.{line_of, lines_in}
use Rattle.droid_report.proofs.Lines.{map_insert}
use Rattle.droid_report.proofs.lists.insert_row.Goals as goal

pub returns : goal.returns
returns c =
    ap lines_in c.in_ok-insert.ensures.items
    ∙ (map_insert line_of c.args.list.now.items c.args.place c.in_ok-copy.copy ∙ ap (insert (lines_in c.args.list.now.items) c.args.place) c.in_ok-copy.ensures)
