use Rattle.std.proofs.Common.{◌∙◌, sym}
use Rattle.droid_export.proofs.PlainRows.{quoted_at}
use Rattle.droid_export.proofs.reading.plain_row.quoted.Goals as goal

pub returns-then-found-mark : goal.returns-then-found-mark
returns-then-found-mark c =
    quoted_at c.args.mark c.args.text.now c.in_ok-first.inner.now c.split_at.result.0.now c.split_at.result.1.now c.in_ok-behind.behind.now c.in_ok-found.rest.now
    c.in_ok-first.first.now c.in_ok-behind.field-0-0.now c.in_ok-found.found.now c.in_ok-end.end
    c.in_ok-first.ensures.cases.0 c.if-first-ne34.false (sym c.first_quote.ensures ∙ c.in_ok-end.was)
    c.split_at.ensures.front c.split_at.ensures.back c.in_ok-behind.ensures.cases.0 c.in_ok-found.ensures.cases.0 c.if-found-mark.true
