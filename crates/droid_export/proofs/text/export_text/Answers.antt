use Rattle.std.proofs.Common.{ℕ, List, ◌++◌, ap, ◌∙◌}
use Rattle.std.specs.List.{flat_map}
use Rattle.droid_export.specs.Rows.{header}
use Rattle.droid_export.specs.Text.{chosen_rows, row_text, text}
use Rattle.droid_export.proofs.text.export_text.Goals as goal

pub returns : goal.returns
unfolding text
returns c =
    let chosen : List ℕ = flat_map row_text (chosen_rows c.args.registry.now c.args.filter.now c.args.records.now) in
    c.from.ensures ∙ (c.into_vec.ensures ∙ (c.in_ok-add_records.ensures
    ∙ ap (λ (t : List ℕ). t ++ chosen) (c.in_ok-add_header.ensures.added ∙ ap (λ (t : List ℕ). t ++ row_text (header c.args.hash)) c.new-rows.ensures)))
