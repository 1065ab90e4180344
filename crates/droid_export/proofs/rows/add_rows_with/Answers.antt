use Rattle.std.proofs.Common.{◌≡◌, ℕ, List, ◌++◌, sym, subst}
use Rattle.std.specs.List.{flat_map}
use Rattle.std.proofs.lemmas.Result.{on_ok_weaker}
use Rattle.droid_export.specs.Rows.{Row}
use Rattle.droid_export.specs.Text.{row_text}
use Rattle.droid_export.proofs.TextConcatenation.{no_formats, some_formats}
use Rattle.droid_export.proofs.rows.add_rows_with.Goals as goal

pub returns-then-is_empty : goal.returns-then-is_empty
returns-then-is_empty c =
    let same = no_formats c.args.registry.now c.args.node.now (c.is_empty.ensures.0 c.if-is_empty.true) in
    on_ok_weaker c.add_row.result
    (λ added. subst (λ (t : List ℕ). c.add_row.new.text.items ≡ c.args.text.now.items ++ t) (sym same) added)
    c.add_row.ensures

pub returns : goal.returns
returns c =
    let same = some_formats c.args.registry.now c.args.node.now (λ none. let is = c.is_empty.ensures.1 none in cc) in
    on_ok_weaker c.add_format_rows.result
    (λ added. subst (λ (rows : List Row). c.add_format_rows.new.text.items ≡ c.args.text.now.items ++ flat_map row_text rows) (sym same) added)
    c.add_format_rows.ensures
