-- Bytes without a double quote.
use Rattle.std.proofs.Common.{◌++◌, sym, ap, ◌∙◌}
use Rattle.droid_signature.proofs.RowTexts.{plain_doubled}
use Rattle.droid_signature.proofs.row_text.push_doubled.Goals as goal

pub returns-then-has_no_quote : goal.returns-then-has_no_quote
returns-then-has_no_quote c =
    c.in_ok-extend_from_slice.ensures.items ∙ ap (λ l. c.args.text.now.items ++ l) (sym (plain_doubled c.args.field.now (sym c.has_no_quote.ensures ∙ c.if-has_no_quote.true)))
