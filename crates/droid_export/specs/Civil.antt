-- The civil calendar: the proleptic Gregorian calendar of ISO 8601, defined day by day.
use Rattle.std.specs.Prelude.{ℕ, zero, suc, ◌+◌, ◌-◌, nat_lt, if◌then◌else◌, ℤ, pos, negsuc}
use Rattle.jiff_core.specs.Calendar.{days_in_month}

-- a date
pub record Civil : Type 0 where
  pub year : ℕ
  -- from 1
  pub month : ℕ
  -- from 1
  pub day : ℕ

-- 1970-01-01
abbrev pub epoch : Civil
epoch = record { year = 1970; month = 1; day = 1 }

-- the day after a date
unfoldable pub day_after : Civil → Civil
day_after date =
    if nat_lt date.day (days_in_month (pos date.year) date.month) then record date { day = date.day + 1 }
    else if nat_lt date.month 12 then record { year = date.year; month = date.month + 1; day = 1 }
    else record { year = date.year + 1; month = 1; day = 1 }

-- the day before a date
unfoldable pub day_before : Civil → Civil
day_before date =
    if nat_lt 1 date.day then record date { day = date.day - 1 }
    else if nat_lt 1 date.month
    then record { year = date.year; month = date.month - 1; day = days_in_month (pos date.year) (date.month - 1) }
    else record { year = date.year - 1; month = 12; day = 31 }

-- the date n days after 1970-01-01
unfoldable pub days_after : ℕ → Civil
days_after zero = epoch
days_after (suc n) = day_after (days_after n)

-- the date n days before 1970-01-01
unfoldable pub days_before : ℕ → Civil
days_before zero = epoch
days_before (suc n) = day_before (days_before n)

-- the date with this number of days after 1970-01-01; a negative number counts days before it
abbrev pub civil : ℤ → Civil
civil (pos n) = days_after n
civil (negsuc n) = days_before (suc n)
