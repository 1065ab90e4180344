use Rattle.std.proofs.Common.{◌∙◌, ℕ, List, ◌++◌, ap}
use Rattle.std.specs.Option.{option_copied}
use Rattle.std.proofs.lemmas.Result.{on_ok_weaker}
use Rattle.droid_export.specs.Rows.{row, shown_by}
use Rattle.droid_export.proofs.Lines.{all_pieces}
use Rattle.droid_export.proofs.rows.add_row.Goals as goal

pub returns : goal.returns
returns c =
    on_ok_weaker c.add_texts.result
    (λ added. added ∙ ap (λ (l : List ℕ). c.args.text.now.items ++ l) (all_pieces (row c.args.node.now (shown_by c.args.puid.now (option_copied c.args.format)))))
    c.add_texts.ensures
