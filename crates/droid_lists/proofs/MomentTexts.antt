-- Each day counted from 1970-01-01 is a date of the calendar, and the text of a moment is one.
use Rattle.std.proofs.Common.{◌≡◌, ℕ, zero, suc, ◌+◌, ◌-◌, ◌*◌, ◌/◌, ◌%◌, ◌<◌, ◌≤◌, inl, inr, true, false, nat_lt, nat_le, ◌++◌, ◌∷◌, refl, sym, arith, rules, ℤ, pos, negsuc, neg_ℤ, ◌+ℤ◌, ◌≤ℤ◌}
use Rattle.std.specs.Char.{is_ascii_digit}
use Rattle.std.specs.Int.{int_div_euclid}
use Rattle.std.proofs.lemmas.Bool.{cases_order}
use Rattle.std.proofs.lemmas.Bool.Decides.{nat_tests}
use Rattle.jiff_core.specs.Calendar.{days_in_month, days_from_civil, day_count, IsCivilDate}
use Rattle.jiff_core.proofs.SignedLemmas.{signed_arith}
use Rattle.jiff_core.proofs.CalendarLemmas.{days_from_civil-day_count, days_in_month_bounds, day_count-epoch, day_count-lt_year}
use Rattle.jiff_core.proofs.MarchLemmas.{day_count-early}
use Rattle.jiff_core.proofs.DateLemmas.{days_from_civil-day, days_from_civil-max, days_from_civil-next_month, days_from_civil-next_year}
use Rattle.droid_export.specs.Civil.{Civil, civil, day_after, day_before, days_after, days_before, epoch}
use Rattle.droid_export.specs.Moments.{IsMoment, date_text, moment_text, second_of_day, time_text}
use Rattle.droid_export.specs.ReadMoments.{is_date, is_moment, two_of}

-- ---- dates

abbrev date_at : ℕ → ℕ → ℕ → Civil
date_at y m d = record { year = y; month = m; day = d }

-- the calendar has this date, and counts so many days from 1970-01-01 to it
pub record Counts (z : ℤ) (date : Civil) : Type 0 where
  pub first_month : 1 ≤ date.month
  pub last_month : date.month ≤ 12
  pub first_day : 1 ≤ date.day
  pub last_day : date.day ≤ days_in_month (pos date.year) date.month
  pub number : days_from_civil (pos date.year) date.month date.day ≡ z

lt_true : (a b : ℕ) → a < b → nat_lt a b ≡ true
lt_true a b h = grind (arith, nat_tests)

lt_false : (a b : ℕ) → b ≤ a → nat_lt a b ≡ false
lt_false a b h = grind (arith, nat_tests)

le_true : (a b : ℕ) → a ≤ b → nat_le a b ≡ true
le_true a b h = grind (arith, nat_tests)

at_epoch : Counts (pos 0) epoch
at_epoch = record {
  first_month = omega arith;
  last_month = omega arith;
  first_day = omega arith;
  last_day = omega arith;
  number = omega (arith, signed_arith, days_from_civil-day_count (pos 1970) 1 1, day_count-epoch);
}

-- the day after
after_day : (z next : ℤ) (y m d : ℕ) → Counts z (date_at y m d) → next ≡ z +ℤ pos 1 → d < days_in_month (pos y) m → Counts next (day_after (date_at y m d))
unfolding day_after
after_day z next y m d is one less =
    let number = is.number in
    let same = days_from_civil-day (pos y) m (d + 1) d (omega arith) is.first_day in
    rw (lt_true d (days_in_month (pos y) m) less) (record {
      first_month = is.first_month;
      last_month = is.last_month;
      first_day = omega arith;
      last_day = omega arith;
      number = omega (arith, signed_arith);
    })

after_month : (z next : ℤ) (y m d : ℕ) → Counts z (date_at y m d) → next ≡ z +ℤ pos 1 → d ≡ days_in_month (pos y) m → m < 12 → Counts next (day_after (date_at y m d))
unfolding day_after
after_month z next y m d is one last less =
    let number = is.number in
    let first = days_from_civil-next_month (pos y) m d is.first_month last in
    let bounds = days_in_month_bounds (pos y) (m + 1) in
    rw (lt_false d (days_in_month (pos y) m) (omega arith), lt_true m 12 less) (record {
      first_month = omega arith;
      last_month = omega arith;
      first_day = omega arith;
      last_day = omega arith;
      number = omega (arith, signed_arith);
    })

after_year : (z next : ℤ) (y : ℕ) → Counts z (date_at y 12 31) → next ≡ z +ℤ pos 1 → Counts next (day_after (date_at y 12 31))
unfolding day_after
after_year z next y is one =
    let number = is.number in
    let first = days_from_civil-next_year (pos y) (pos (y + 1)) (omega (arith, signed_arith)) (omega (arith, signed_arith)) in
    record {
      first_month = omega arith;
      last_month = omega arith;
      first_day = omega arith;
      last_day = omega arith;
      number = omega (arith, signed_arith);
    }

after : (z next : ℤ) (y m d : ℕ) → Counts z (date_at y m d) → next ≡ z +ℤ pos 1 → Counts next (day_after (date_at y m d))
after z next y m d is one = elim (cases_order d (days_in_month (pos y) m)) [
  | inr (inl less) ↦ after_day z next y m d is one less
  | inr (inr more) ↦ absurd (omega (arith, is.last_day))
  | inl last ↦ elim (cases_order m 12) [
    | inr (inl less) ↦ after_month z next y m d is one last less
    | inr (inr more) ↦ absurd (omega (arith, is.last_month))
    | inl december ↦
        let end : d ≡ 31 = rw december at last in
        rw (december, end) (after_year z next y (rw (december, end) at is) one)
  ]
]

-- the day before
before_day : (z last : ℤ) (y m d : ℕ) → Counts z (date_at y m d) → last +ℤ pos 1 ≡ z → 1 < d → Counts last (day_before (date_at y m d))
unfolding day_before
before_day z last y m d is one more =
    let number = is.number in
    let within = is.last_day in
    let same = days_from_civil-day (pos y) m d (d - 1) is.first_day (omega arith) in
    rw (lt_true 1 d more) (record {
      first_month = is.first_month;
      last_month = is.last_month;
      first_day = omega arith;
      last_day = omega arith;
      number = omega (arith, signed_arith);
    })

before_month : (z last : ℤ) (y m : ℕ) → Counts z (date_at y m 1) → last +ℤ pos 1 ≡ z → 1 < m → Counts last (day_before (date_at y m 1))
unfolding day_before
before_month z last y m is one more =
    let number = is.number in
    let within = is.last_month in
    let back : m - 1 + 1 ≡ m = omega arith in
    let bounds = days_in_month_bounds (pos y) (m - 1) in
    let first : days_from_civil (pos y) m 1 ≡ days_from_civil (pos y) (m - 1) (days_in_month (pos y) (m - 1)) +ℤ pos 1 =
    rw back at (days_from_civil-next_month (pos y) (m - 1) (days_in_month (pos y) (m - 1)) (omega arith) refl) in
    rw (lt_true 1 m more) (record {
      first_month = omega arith;
      last_month = omega arith;
      first_day = omega arith;
      last_day = omega arith;
      number = omega (arith, signed_arith);
    })

before_year : (z last : ℤ) (y : ℕ) → Counts z (date_at y 1 1) → last +ℤ pos 1 ≡ z → 1 ≤ y → Counts last (day_before (date_at y 1 1))
unfolding day_before
before_year z last y is one some =
    let number = is.number in
    let first = days_from_civil-next_year (pos (y - 1)) (pos y) (omega (arith, signed_arith)) (omega (arith, signed_arith)) in
    record {
      first_month = omega arith;
      last_month = omega arith;
      first_day = omega arith;
      last_day = omega arith;
      number = omega (arith, signed_arith);
    }

before : (z last : ℤ) (y m d : ℕ) → Counts z (date_at y m d) → last +ℤ pos 1 ≡ z → 1 ≤ y → Counts last (day_before (date_at y m d))
before z last y m d is one some = elim (cases_order 1 d) [
  | inr (inl more) ↦ before_day z last y m d is one more
  | inr (inr less) ↦ absurd (omega (arith, is.first_day))
  | inl first ↦ elim (cases_order 1 m) [
    | inr (inl more) ↦ rw (← first) (before_month z last y m (rw (← first) at is) one more)
    | inr (inr less) ↦ absurd (omega (arith, is.first_month))
    | inl january ↦ rw (← first, ← january) (before_year z last y (rw (← first, ← january) at is) one some)
  ]
]

-- ---- years

-- the day count of 0001-01-01
first_count : day_count (pos 1) 1 1 ≡ 3652791
first_count = day_count-early (pos 1) 10000 1 1 refl (omega arith) (omega arith) (omega arith)

some_year : (z : ℤ) (y m d : ℕ) → Counts z (date_at y m d) → neg_ℤ (pos 719162) ≤ℤ z → 1 ≤ y
some_year z y m d is late = elim (cases_order y 0) [
  | inl none ↦
      let number : days_from_civil (pos 0) m d ≡ z = rw none at is.number in
      let date : IsCivilDate (pos 0) m d = ((omega (arith, signed_arith), omega (arith, signed_arith)), (is.first_month, is.last_month), (is.first_day, rw none at is.last_day)) in
      absurd (omega (arith, signed_arith, days_from_civil-day_count (pos 0) m d, first_count, day_count-lt_year (pos 0) m d (pos 1) 1 1 date (omega arith) (omega (arith, signed_arith))))
  | inr (inl less) ↦ absurd (omega arith)
  | inr (inr more) ↦ omega arith
]

no_later : (z : ℤ) (y m d : ℕ) → Counts z (date_at y m d) → z ≤ℤ pos 2932896 → y < 10000
no_later z y m d is early = elim (cases_order y 10000) [
  | inr (inl less) ↦ less
  | inl same ↦ late (omega arith)
  | inr (inr more) ↦ late (omega arith)
]
  where
    last : IsCivilDate (pos 9999) 12 31
    last = search rules

    late : 10000 ≤ y → y < 10000
    late past =
        let number = is.number in
        absurd (omega (arith, signed_arith, days_from_civil-day_count (pos y) m d, days_from_civil-day_count (pos 9999) 12 31, days_from_civil-max, day_count-lt_year (pos 9999) 12 31 (pos y) m d last is.first_day (omega (arith, signed_arith))))

-- ---- each day

forward : (n : ℕ) → Counts (pos n) (days_after n)
unfolding days_after
forward zero = at_epoch
forward (suc n) = after (pos n) (pos (suc n)) (days_after n).year (days_after n).month (days_after n).day (forward n) (omega (arith, signed_arith))

backward : (n : ℕ) → n ≤ 719162 → Counts (neg_ℤ (pos n)) (days_before n)
unfolding days_before
backward zero within = at_epoch
backward (suc n) within =
    let is = backward n (omega arith) in
    before (neg_ℤ (pos n)) (neg_ℤ (pos (suc n))) (days_before n).year (days_before n).month (days_before n).day is (omega (arith, signed_arith))
    (some_year (neg_ℤ (pos n)) (days_before n).year (days_before n).month (days_before n).day is (omega (arith, signed_arith)))

counted : (z : ℤ) → neg_ℤ (pos 719162) ≤ℤ z → Counts z (civil z)
counted (pos n) late = forward n
counted (negsuc n) late = backward (suc n) (omega (arith, signed_arith))

-- a date that is counted passes the test of dates
date_passes : (z : ℤ) (y m d : ℕ) → Counts z (date_at y m d) → neg_ℤ (pos 719162) ≤ℤ z → z ≤ℤ pos 2932896 → is_date y m d ≡ true
date_passes z y m d is late early =
    let some = some_year z y m d is late in
    let past = no_later z y m d is early in
    rw (lt_true 0 y some, lt_true y 10000 past, lt_true 0 m is.first_month, lt_true m 13 (omega (arith, is.last_month)), lt_true 0 d is.first_day)
    (le_true d (days_in_month (pos y) m) is.last_day)

pub civil_is_date : (z : ℤ) → neg_ℤ (pos 719162) ≤ℤ z → z ≤ℤ pos 2932896 → is_date (civil z).year (civil z).month (civil z).day ≡ true
civil_is_date z late early = date_passes z (civil z).year (civil z).month (civil z).day (counted z late) late early

-- ---- the text

digit_is : (k : ℕ) → k < 10 → is_ascii_digit (48 + k) ≡ true
digit_is k below = grind (arith, nat_tests)

two_by : (a b n : ℕ) → a < 10 → b < 10 → n ≡ a * 10 + b → two_of (48 + a) (48 + b) ≡ n
two_by a b n first second is =
    let here : 48 + a - 48 ≡ a = omega arith in
    let there : 48 + b - 48 ≡ b = omega arith in
    rw (digit_is a first, digit_is b second, here, there) (sym is)

two_read : (n : ℕ) → n < 100 → two_of (48 + n / 10) (48 + n % 10) ≡ n
two_read n below = two_by (n / 10) (n % 10) n (omega arith) (omega arith) (omega arith)

-- the text of a date and of a second of the day passes the test of moments
text_passes : (y m d s : ℕ) → is_date y m d ≡ true → y < 10000 → m < 100 → d < 100 → s < 86400 → is_moment (date_text (date_at y m d) ++ 84 ∷ time_text s) ≡ true
unfolding is_moment
text_passes y m d s date year month day second =
    let years : y / 100 * 100 + y % 100 ≡ y = omega arith in
    rw (
      two_read (y / 100) (omega arith),
      two_read (y % 100) (omega arith),
      years,
      two_read m month,
      two_read d day,
      date,
      two_read (s / 3600) (omega arith),
      two_read (s / 60 % 60) (omega arith),
      two_read (s % 60) (omega arith),
      lt_true (s / 3600) 24 (omega arith),
      lt_true (s / 60 % 60) 60 (omega arith),
      lt_true (s % 60) 60 (omega arith),
    ) refl

early_day : (seconds : ℤ) → neg_ℤ (pos 62135596800) ≤ℤ seconds → neg_ℤ (pos 719162) ≤ℤ int_div_euclid seconds (pos 86400)
early_day (pos n) h = omega (arith, signed_arith)
early_day (negsuc n) h = omega (arith, signed_arith)

late_day : (seconds : ℤ) → seconds ≤ℤ pos 253402300799 → int_div_euclid seconds (pos 86400) ≤ℤ pos 2932896
late_day (pos n) h = omega (arith, signed_arith)
late_day (negsuc n) h = omega (arith, signed_arith)

of_a_day : (seconds : ℤ) → second_of_day seconds < 86400
of_a_day (pos n) = omega (arith, signed_arith)
of_a_day (negsuc n) = omega (arith, signed_arith)

-- the text of each moment that has one passes the test of moments
pub moment_passes : (seconds : ℤ) → IsMoment seconds → is_moment (moment_text seconds) ≡ true
unfolding moment_text
moment_passes seconds is =
    let z = int_div_euclid seconds (pos 86400) in
    let late = early_day seconds is.0 in
    let early = late_day seconds is.1 in
    let at = counted z late in
    let long = days_in_month_bounds (pos (civil z).year) (civil z).month in
    text_passes (civil z).year (civil z).month (civil z).day (second_of_day seconds) (civil_is_date z late early)
    (no_later z (civil z).year (civil z).month (civil z).day at early) (omega (arith, at.last_month)) (omega (arith, at.last_day)) (of_a_day seconds)
