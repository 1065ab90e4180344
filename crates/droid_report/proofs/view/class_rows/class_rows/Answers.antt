use Rattle.std.proofs.Common.{◌∙◌, ℕ, take, sym, ap}
use Rattle.std.proofs.lemmas.List.{take-map}
use Rattle.droid_report.specs.ShownClasses.{class_row, flat_map_at}
use Rattle.droid_report.specs.Seen.{row_seen, rows_seen}
use Rattle.droid_report.proofs.view.class_rows.class_rows.Goals as goal

pub returns : goal.returns
returns c =
    ap rows_seen c.truncate.ensures.items
    ∙ (sym (take-map row_seen c.args.limit c.in_ok-lines.lines.items)
    ∙ ap (take c.args.limit) (c.in_ok-lines.ensures ∙ ap (λ (most : ℕ). flat_map_at (class_row c.args.by most) 0 c.args.counts.now) c.greatest.ensures))
