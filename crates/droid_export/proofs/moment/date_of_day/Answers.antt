use Rattle.std.proofs.Common.{◌∙◌, ◌+ℤ◌, ap, FitsSigned, w64, arith, rules}
use Rattle.std.proofs.lemmas.Int.{to_z-of_z}
use Rattle.jiff_core.specs.declared.unit.Unit.TheVariants.{Day}
use Rattle.jiff_core.specs.Span.{IsOnly}
use Rattle.jiff.proofs.SpanFacts.{signed_arith, date_add-days, can_add-days}
use Rattle.droid_export.proofs.CivilDays.{epoch_is}
use Rattle.droid_export.proofs.moment.date_of_day.Goals as goal

pub unwrap-requires : goal.unwrap-requires
unwrap-requires c =
    let fits : FitsSigned w64 c.args.days = search rules in
    let only : IsOnly Day c.args.days c.days.result = simp to_z-of_z at c.days.ensures in
    let can = can_add-days c.date.result c.args.days c.days.result only in
    c.checked_add.ensures.succeeds.1 (can.1 (rw (epoch_is c.date.result c.date.ensures) (omega (arith, signed_arith, c.requires))))

pub returns : goal.returns
returns c =
    let fits : FitsSigned w64 c.args.days = search rules in
    let only : IsOnly Day c.args.days c.days.result = simp to_z-of_z at c.days.ensures in
    let value = rw c.unwrap.ensures at c.checked_add.ensures.value in
    value ∙ date_add-days c.date.result c.args.days c.days.result only
    ∙ ap (λ day. day +ℤ c.args.days) (epoch_is c.date.result c.date.ensures)
    ∙ omega (arith, signed_arith)
