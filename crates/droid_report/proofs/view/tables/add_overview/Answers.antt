use Rattle.std.proofs.Common.{◌∙◌, ◌++◌, ◌∷◌, [], List, append_assoc, ap}
use Rattle.droid_report.specs.Seen.{Shown, tables_seen}
use Rattle.droid_report.specs.ShownTables.{pictures, totals_table}
use Rattle.droid_report.proofs.view.tables.add_overview.Goals as goal

pub returns : goal.returns
returns c =
    let old = tables_seen c.args.tables.now.items in
    c.in_ok-add_pictures.ensures
    ∙ (ap (λ (tables : List Shown). tables ++ pictures c.args.orders.now c.args.limit) (c.in_ok-add.ensures ∙ ap (λ (table : Shown). old ++ table ∷ []) c.in_ok-table.ensures)
    ∙ append_assoc old (totals_table c.args.totals c.args.orders.now ∷ []) (pictures c.args.orders.now c.args.limit))
