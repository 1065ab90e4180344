use Rattle.std.proofs.Common.{◌∙◌, sym}
use Rattle.droid_export.proofs.Numbers.{digits_utf8, number_parsed}
use Rattle.droid_export.proofs.fields.number_of.Goals as goal

pub returns-in-Ok : goal.returns-in-Ok
returns-in-Ok c =
    let digits = sym c.are_digits.ensures ∙ c.if-not-are_digits.false in
    c.ok.ensures.value ∙ number_parsed c.args.text.now c.parse.result (rw c.in-Ok.ensures.cases.0 at c.parse.ensures.value.0) digits

pub returns-in-Err : goal.returns-in-Err
returns-in-Err c =
    let digits = sym c.are_digits.ensures ∙ c.if-not-are_digits.false in
    absurd (c.in-Err.ensures.cases.0 (digits_utf8 c.args.text.now digits))
