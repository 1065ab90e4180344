-- The date n days after 1970-01-01 is the one that `jiff` computes for n.
use Rattle.std.proofs.Common.{◌≡◌, ℕ, zero, suc, ◌+◌, ◌-◌, ◌<◌, ◌≤◌, inl, inr, true, false, nat_lt, refl, sym, arith, rules, ℤ, pos, negsuc, neg_ℤ, ◌+ℤ◌, ◌≤ℤ◌, unsigned_abs}
use Rattle.std.proofs.lemmas.Bool.{cases_order}
use Rattle.std.proofs.lemmas.Int.{by_lt_z}
use Rattle.std.proofs.lemmas.Bool.Decides.{nat_tests}
use Rattle.std.specs.Int.{int_div_euclid}
use Rattle.jiff_core.specs.declared.civil.date.Date.{Date}
use Rattle.jiff_core.specs.Date.{epoch_day, IsYmd}
use Rattle.jiff_core.specs.Calendar.{days_in_month, days_from_civil, day_count, IsCivilDate}
use Rattle.jiff_core.proofs.SignedLemmas.{signed_arith}
use Rattle.jiff_core.proofs.CalendarLemmas.{days_from_civil-day_count, days_in_month_bounds, day_count-epoch, day_count-lt_year, day_count-lt_month, day_count-day}
use Rattle.jiff_core.proofs.MarchLemmas.{day_count-early}
use Rattle.jiff_core.proofs.DateLemmas.{days_from_civil-day, days_from_civil-next_month, days_from_civil-next_year}
use Rattle.droid_export.specs.Civil.{Civil, epoch, day_after, day_before, days_after, days_before, civil}

abbrev pub date_at : ℕ → ℕ → ℕ → Civil
date_at y m d = record { year = y; month = m; day = d }

-- the calendar has this day
pub record IsDay (y m d : ℕ) : Type 0 where
  pub first_month : 1 ≤ m
  pub last_month : m ≤ 12
  pub first_day : 1 ≤ d
  pub last_day : d ≤ days_in_month (pos y) m

-- no earlier year has days from 1970-01-01 on
not_earlier : (y m d n : ℕ) → IsDay y m d → days_from_civil (pos y) m d ≡ pos n → 1970 ≤ y
not_earlier y m d n h e = elim (cases_order y 1970) [
  | inl same ↦ omega arith
  | inr (inl lt) ↦ absurd (omega (arith, signed_arith, days_from_civil-day_count (pos y) m d, day_count-epoch, day_count-lt_year (pos y) m d (pos 1970) 1 1 ((omega (arith, signed_arith), omega (arith, signed_arith)), (h.first_month, h.last_month), (h.first_day, h.last_day)) (omega arith) (omega (arith, signed_arith))))
  | inr (inr gt) ↦ omega arith
]

-- the one day that lies no day from 1970-01-01
at_epoch : (y m d : ℕ) → IsDay y m d → days_from_civil (pos y) m d ≡ pos 0 → epoch ≡ date_at y m d
at_epoch y m d h e =
    let late : 1970 ≤ y = not_earlier y m d 0 h e in
    let count = days_from_civil-day_count (pos y) m d in
    let year : y ≡ 1970 = elim (cases_order 1970 y) [
      | inl same ↦ sym same
      | inr (inl lt) ↦ absurd (omega (arith, signed_arith, count, day_count-epoch, day_count-lt_year (pos 1970) 1 1 (pos y) m d first h.first_day (omega (arith, signed_arith))))
      | inr (inr gt) ↦ omega arith
    ] in
    let here : days_from_civil (pos 1970) m d ≡ pos 0 = rw year at e in
    let count2 = days_from_civil-day_count (pos 1970) m d in
    let month : m ≡ 1 = elim (cases_order 1 m) [
      | inl same ↦ sym same
      | inr (inl lt) ↦ absurd (omega (arith, signed_arith, count2, day_count-epoch, day_count-lt_month (pos 1970) 1 1 m d first h.first_day lt))
      | inr (inr gt) ↦ absurd (omega (arith, h.first_month))
    ] in
    let there : days_from_civil (pos 1970) 1 d ≡ pos 0 = rw month at here in
    let day : d ≡ 1 = omega (arith, signed_arith, days_from_civil-day_count (pos 1970) 1 d, day_count-epoch, day_count-day (pos 1970) 1 d 1 h.first_day (omega arith)) in
    rw (year, month, day) refl
  where
    first : IsCivilDate (pos 1970) 1 1
    first = search rules

-- a test of an order that holds, and of one that doesn't
lt_true : (a b : ℕ) → a < b → nat_lt a b ≡ true
lt_true a b h = grind (arith, nat_tests)

lt_false : (a b : ℕ) → b ≤ a → nat_lt a b ≡ false
lt_false a b h = grind (arith, nat_tests)

-- the day after the day before
after_within : (y m d : ℕ) → 1 < d → d ≤ days_in_month (pos y) m → day_after (date_at y m (d - 1)) ≡ date_at y m d
unfolding day_after
after_within y m d more last =
    let test : nat_lt (d - 1) (days_in_month (pos y) m) ≡ true = lt_true _ _ (omega arith) in
    let back : d - 1 + 1 ≡ d = omega arith in
    rw (test, back) refl

after_month : (y m : ℕ) → 1 < m → m ≤ 12 → day_after (date_at y (m - 1) (days_in_month (pos y) (m - 1))) ≡ date_at y m 1
unfolding day_after
after_month y m more last =
    let test : nat_lt (days_in_month (pos y) (m - 1)) (days_in_month (pos y) (m - 1)) ≡ false = lt_false _ _ (omega arith) in
    let next : nat_lt (m - 1) 12 ≡ true = lt_true _ _ (omega arith) in
    let back : m - 1 + 1 ≡ m = omega arith in
    rw (test, next, back) refl

after_year : (y : ℕ) → 1 ≤ y → day_after (date_at (y - 1) 12 31) ≡ date_at y 1 1
unfolding day_after
after_year y more =
    let back : y - 1 + 1 ≡ y = omega arith in
    rw back refl

-- the day before the day after
before_within : (y m d : ℕ) → 1 ≤ d → day_before (date_at y m (d + 1)) ≡ date_at y m d
unfolding day_before
before_within y m d more =
    let test : nat_lt 1 (d + 1) ≡ true = lt_true _ _ (omega arith) in
    let back : d + 1 - 1 ≡ d = omega arith in
    rw (test, back) refl

before_month : (y m : ℕ) → 1 ≤ m → day_before (date_at y (m + 1) 1) ≡ date_at y m (days_in_month (pos y) m)
unfolding day_before
before_month y m more =
    let test : nat_lt 1 (m + 1) ≡ true = lt_true _ _ (omega arith) in
    let back : m + 1 - 1 ≡ m = omega arith in
    rw (test, back) refl

before_year : (y : ℕ) → day_before (date_at (y + 1) 1 1) ≡ date_at y 12 31
unfolding day_before
before_year y =
    let back : y + 1 - 1 ≡ y = omega arith in
    rw back refl

-- forward: the date this number of days after the first
pub forward : (n y m d : ℕ) → IsDay y m d → days_from_civil (pos y) m d ≡ pos n → days_after n ≡ date_at y m d
unfolding days_after
forward zero y m d h e = at_epoch y m d h e
forward (suc n) y m d h e = elim (cases_order 1 d) [
  | inr (inl more) ↦
      let before : days_after n ≡ date_at y m (d - 1) = forward n y m (d - 1)
      (record { first_month = h.first_month; last_month = h.last_month; first_day = omega arith; last_day = omega (arith, h.last_day) })
      (omega (arith, signed_arith, days_from_civil-day (pos y) m d (d - 1) h.first_day (omega arith))) in
      rw before (after_within y m d more h.last_day)
  | inr (inr less) ↦ absurd (omega (arith, h.first_day))
  | inl one ↦ elim (cases_order 1 m) [
    | inr (inl more) ↦
        let back : m - 1 + 1 ≡ m = omega arith in
        let length = days_in_month_bounds (pos y) (m - 1) in
        let number : days_from_civil (pos y) m 1 ≡ days_from_civil (pos y) (m - 1) (days_in_month (pos y) (m - 1)) +ℤ pos 1 =
        rw back at (days_from_civil-next_month (pos y) (m - 1) (days_in_month (pos y) (m - 1)) (omega arith) refl) in
        let here : days_from_civil (pos y) m 1 ≡ pos (suc n) = rw (← one) at e in
        let before : days_after n ≡ date_at y (m - 1) (days_in_month (pos y) (m - 1)) = forward n y (m - 1) (days_in_month (pos y) (m - 1))
        (record { first_month = omega arith; last_month = omega (arith, h.last_month); first_day = omega arith; last_day = omega arith })
        (omega (arith, signed_arith)) in
        rw (← one, before) (after_month y m more h.last_month)
    | inr (inr less) ↦ absurd (omega (arith, h.first_month))
    | inl first ↦
        let here : days_from_civil (pos y) 1 1 ≡ pos (suc n) = rw (← one, ← first) at e in
        let late : 1970 ≤ y = not_earlier y m d (suc n) h e in
        let number : days_from_civil (pos y) 1 1 ≡ days_from_civil (pos (y - 1)) 12 31 +ℤ pos 1 =
        days_from_civil-next_year (pos (y - 1)) (pos y) (omega (arith, signed_arith)) (omega (arith, signed_arith)) in
        let before : days_after n ≡ date_at (y - 1) 12 31 = forward n (y - 1) 12 31
        (record { first_month = omega arith; last_month = omega arith; first_day = omega arith; last_day = omega arith })
        (omega (arith, signed_arith)) in
        rw (← one, ← first, before) (after_year y (omega arith))
  ]
]

-- backward: the date this number of days before the first
pub backward : (n y m d : ℕ) → IsDay y m d → days_from_civil (pos y) m d ≡ neg_ℤ (pos n) → days_before n ≡ date_at y m d
unfolding days_before
backward zero y m d h e = at_epoch y m d h e
backward (suc n) y m d h e = elim (cases_order d (days_in_month (pos y) m)) [
  | inr (inl less) ↦
      let after : days_before n ≡ date_at y m (d + 1) = backward n y m (d + 1)
      (record { first_month = h.first_month; last_month = h.last_month; first_day = omega arith; last_day = omega arith })
      (omega (arith, signed_arith, days_from_civil-day (pos y) m d (d + 1) h.first_day (omega arith))) in
      rw after (before_within y m d h.first_day)
  | inr (inr more) ↦ absurd (omega (arith, h.last_day))
  | inl last ↦ elim (cases_order m 12) [
    | inr (inl less) ↦
        let number = days_from_civil-next_month (pos y) m d h.first_month last in
        let after : days_before n ≡ date_at y (m + 1) 1 = backward n y (m + 1) 1
        (record { first_month = omega arith; last_month = omega arith; first_day = omega arith; last_day = omega (arith, days_in_month_bounds (pos y) (m + 1)) })
        (omega (arith, signed_arith)) in
        rw (after, last) (before_month y m h.first_month)
    | inr (inr more) ↦ absurd (omega (arith, h.last_month))
    | inl december ↦
        let end : d ≡ 31 = rw december at last in
        let here : days_from_civil (pos y) 12 31 ≡ neg_ℤ (pos (suc n)) = rw (december, end) at e in
        let number : days_from_civil (pos (y + 1)) 1 1 ≡ days_from_civil (pos y) 12 31 +ℤ pos 1 =
        days_from_civil-next_year (pos y) (pos (y + 1)) (omega (arith, signed_arith)) (omega (arith, signed_arith)) in
        let after : days_before n ≡ date_at (y + 1) 1 1 = backward n (y + 1) 1 1
        (record { first_month = omega arith; last_month = omega arith; first_day = omega arith; last_day = omega (arith, days_in_month_bounds (pos (y + 1)) 1) })
        (omega (arith, signed_arith)) in
        rw (december, end, after) (before_year y)
  ]
]

-- the date for which `jiff` counts this number of days
pub civil_is : (z : ℤ) (y m d : ℕ) → IsDay y m d → days_from_civil (pos y) m d ≡ z → civil z ≡ date_at y m d
civil_is (pos n) y m d h e = forward n y m d h e
civil_is (negsuc n) y m d h e = backward (suc n) y m d h e

-- the day count of 0001-01-01
first_day : day_count (pos 1) 1 1 ≡ 3652791
first_day = day_count-early (pos 1) 10000 1 1 refl (omega arith) (omega arith) (omega arith)

-- a date from 0001-01-01 on has a year after 0
pub year_is_positive : (y : ℤ) (m d : ℕ) → (neg_ℤ (pos 9999) ≤ℤ y) × (y ≤ℤ pos 9999) → (1 ≤ m) × (m ≤ 12) → (1 ≤ d) × (d ≤ days_in_month y m)
    → neg_ℤ (pos 719162) ≤ℤ days_from_civil y m d → pos 1 ≤ℤ y
year_is_positive y m d years months days late = by_lt_z y (pos 1)
    (λ lt. absurd (omega (arith, signed_arith, days_from_civil-day_count y m d, first_day, day_count-lt_year y m d (pos 1) 1 1 (years, months, days) (omega arith) lt)))
    (λ le. le)

-- the same of a date whose year is signed
pub civil_parts : (z y : ℤ) (m d : ℕ) → (neg_ℤ (pos 9999) ≤ℤ y) × (y ≤ℤ pos 9999) → (1 ≤ m) × (m ≤ 12) → (1 ≤ d) × (d ≤ days_in_month y m)
    → neg_ℤ (pos 719162) ≤ℤ z → days_from_civil y m d ≡ z → civil z ≡ date_at (unsigned_abs y) m d
civil_parts z (pos y) m d years months days late e = civil_is z y m d (record { first_month = months.0; last_month = months.1; first_day = days.0; last_day = days.1 }) e
civil_parts z (negsuc y) m d years months days late e = absurd (omega (arith, signed_arith, year_is_positive (negsuc y) m d years months days (rw e late)))

-- the days of a moment
pub days_late : (seconds : ℤ) → neg_ℤ (pos 62135596800) ≤ℤ seconds → neg_ℤ (pos 719162) ≤ℤ int_div_euclid seconds (pos 86400)
days_late (pos n) h = omega (arith, signed_arith)
days_late (negsuc n) h = omega (arith, signed_arith)

-- the day number of 1970-01-01
pub epoch_is : (date : Date) → IsYmd (pos 1970) (pos 1) (pos 1) date → epoch_day date ≡ pos 0
epoch_is date is =
    let month : date.month ≡ 1 = omega (arith, signed_arith, is.1) in
    let day : date.day ≡ 1 = omega (arith, signed_arith, is.2) in
    let first : days_from_civil (pos 1970) 1 1 ≡ pos 0 = omega (arith, signed_arith, days_from_civil-day_count (pos 1970) 1 1, day_count-epoch) in
    rw (is.0, month, day) first
