use Rattle.std.proofs.Common.{◌∙◌, ℕ, List, [], ap, sym}
use Rattle.std.specs.List.{slice_split}
use Rattle.droid_fixity.specs.Lists.{items_from}
use Rattle.droid_fixity.specs.Texts.{ends_line}
use Rattle.droid_fixity.proofs.Unpairing.{stays}
use Rattle.droid_fixity.proofs.checksum_lists.list.items_by.Goals as goal

pub returns-in-Ok : goal.returns-in-Ok
returns-in-Ok c =
    ap (λ (text : List ℕ). items_from c.args.form 1 [] (slice_split (ends_line c.args.form) text)) (stays c.args.form c.args.text.now (sym c.has_returns.ensures ∙ c.if-has_returns.false))
    ∙ c.in-Ok.ensures

pub returns-in-Err : goal.returns-in-Err
returns-in-Err c = λ some.
    ap (λ (text : List ℕ). items_from c.args.form 1 [] (slice_split (ends_line c.args.form) text)) (stays c.args.form c.args.text.now (sym c.has_returns.ensures ∙ c.if-has_returns.false))
    ∙ c.in-Err.ensures some
