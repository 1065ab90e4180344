use Rattle.std.proofs.Common.{◌≡◌, ap, sym, FitsSigned, w8, w16, w64, pos, neg_ℤ, ◌≤ℤ◌, arith, rules}
use Rattle.std.proofs.lemmas.Int.{to_z-of_z}
use Rattle.std.specs.Int.{int_div_euclid}
use Rattle.jiff_core.specs.Calendar.{days_from_civil}
use Rattle.jiff_core.proofs.CalendarLemmas.{days_in_month_bounds}
use Rattle.jiff_core.proofs.SignedLemmas.{signed_arith}
use Rattle.droid_export.specs.Civil.{Civil}
use Rattle.droid_export.proofs.CivilDays.{civil_parts, days_late, year_is_positive}
use Rattle.droid_export.proofs.moment.date_of.Goals as goal

pub overflow_cast-result : goal.overflow_cast-result
overflow_cast-result c =
    let date = c.date_of_day-date.result in
    let fits : FitsSigned w64 c.args.modified = search rules in
    let days : c.div_euclid.result ≡ int_div_euclid c.args.modified (pos 86400) = simp to_z-of_z at c.div_euclid.ensures in
    let fits2 : FitsSigned w64 c.div_euclid.result = search rules in
    let number : days_from_civil date.year date.month date.day ≡ c.div_euclid.result = simp to_z-of_z at c.date_of_day-date.ensures in
    let late : neg_ℤ (pos 719162) ≤ℤ days_from_civil date.year date.month date.day = rw (number, days) (days_late c.args.modified c.requires.0) in
    let positive : pos 1 ≤ℤ date.year = year_is_positive _ _ _ date.year_in date.month_in date.day_in late in
    let fits3 : FitsSigned w16 date.year = search rules in
    rw c.year.ensures (simp to_z-of_z (search rules))

pub returns-clause-year : goal.returns-clause-year
returns-clause-year c =
    let date = c.date_of_day-date.result in
    let fits : FitsSigned w64 c.args.modified = search rules in
    let days : c.div_euclid.result ≡ int_div_euclid c.args.modified (pos 86400) = simp to_z-of_z at c.div_euclid.ensures in
    let fits2 : FitsSigned w64 c.div_euclid.result = search rules in
    let number : days_from_civil date.year date.month date.day ≡ c.div_euclid.result = simp to_z-of_z at c.date_of_day-date.ensures in
    let same = civil_parts _ _ _ _ date.year_in date.month_in date.day_in (days_late c.args.modified c.requires.0) (rw days at number) in
    let fits3 : FitsSigned w16 date.year = search rules in
    rw c.year.ensures (simp to_z-of_z (sym (ap (λ (it : Civil). it.year) same)))

pub returns-clause-month : goal.returns-clause-month
returns-clause-month c =
    let date = c.date_of_day-date.result in
    let fits : FitsSigned w64 c.args.modified = search rules in
    let days : c.div_euclid.result ≡ int_div_euclid c.args.modified (pos 86400) = simp to_z-of_z at c.div_euclid.ensures in
    let fits2 : FitsSigned w64 c.div_euclid.result = search rules in
    let number : days_from_civil date.year date.month date.day ≡ c.div_euclid.result = simp to_z-of_z at c.date_of_day-date.ensures in
    let same = civil_parts _ _ _ _ date.year_in date.month_in date.day_in (days_late c.args.modified c.requires.0) (rw days at number) in
    let fits3 : FitsSigned w8 (pos date.month) = omega (arith, signed_arith, date.month_in) in
    rw c.month.ensures (simp to_z-of_z (sym (ap (λ (it : Civil). it.month) same)))

pub returns-clause-day : goal.returns-clause-day
returns-clause-day c =
    let date = c.date_of_day-date.result in
    let fits : FitsSigned w64 c.args.modified = search rules in
    let days : c.div_euclid.result ≡ int_div_euclid c.args.modified (pos 86400) = simp to_z-of_z at c.div_euclid.ensures in
    let fits2 : FitsSigned w64 c.div_euclid.result = search rules in
    let number : days_from_civil date.year date.month date.day ≡ c.div_euclid.result = simp to_z-of_z at c.date_of_day-date.ensures in
    let same = civil_parts _ _ _ _ date.year_in date.month_in date.day_in (days_late c.args.modified c.requires.0) (rw days at number) in
    let fits3 : FitsSigned w8 (pos date.day) = omega (arith, signed_arith, date.day_in, days_in_month_bounds date.year date.month) in
    rw c.day.ensures (simp to_z-of_z (sym (ap (λ (it : Civil). it.day) same)))
