use Rattle.std.proofs.Common.{◌∙◌, ℕ, List, ◌++◌, ap}
use Rattle.std.proofs.lemmas.Result.{on_ok_weaker}
use Rattle.droid_export.specs.Rows.{header}
use Rattle.droid_export.proofs.Lines.{all_pieces}
use Rattle.droid_export.proofs.rows.add_header.Goals as goal

pub returns : goal.returns
returns c =
    on_ok_weaker c.add_names.result (λ added. added ∙ ap (λ (l : List ℕ). c.args.text.now.items ++ l) (all_pieces (header c.args.hash))) c.add_names.ensures
