-- Moments, in seconds since 1970-01-01T00:00:00 in UTC, and how a date and a time of day are written (ISO 8601).
use Rattle.std.specs.Prelude.{ℕ, ◌+◌, ◌/◌, ◌%◌, List, [], ◌∷◌, ◌++◌, ℤ, pos, neg_ℤ, ◌≤ℤ◌, unsigned_abs}
use Rattle.std.specs.Int.{int_div_euclid, int_rem_euclid}
use Rattle.droid_export.specs.Civil.{Civil, civil}

-- a moment from 0001-01-01T00:00:00 to 9999-12-31T23:59:59
abbrev pub IsMoment : ℤ → Type 0
IsMoment seconds = (neg_ℤ (pos 62135596800) ≤ℤ seconds) × (seconds ≤ℤ pos 253402300799)

-- its date: the number of whole days since 1970-01-01 is rounded down
abbrev pub date_of : ℤ → Civil
date_of seconds = civil (int_div_euclid seconds (pos 86400))

-- the number of seconds since the start of its day
abbrev pub second_of_day : ℤ → ℕ
second_of_day seconds = unsigned_abs (int_rem_euclid seconds (pos 86400))

-- two decimal digits
abbrev pub two_digits : ℕ → List ℕ
two_digits n = (48 + n / 10) ∷ (48 + n % 10) ∷ []

-- a date as `yyyy-mm-dd`
abbrev pub date_text : Civil → List ℕ
date_text date =
    two_digits (date.year / 100) ++ two_digits (date.year % 100) ++ 45 ∷ two_digits date.month
    ++ 45 ∷ two_digits date.day

-- a time of day as `hh:mm:ss`, from the number of seconds since the start of the day
abbrev pub time_text : ℕ → List ℕ
time_text second = two_digits (second / 3600) ++ 58 ∷ two_digits (second / 60 % 60) ++ 58 ∷ two_digits (second % 60)

-- a moment as `yyyy-mm-ddThh:mm:ss`
unfoldable pub moment_text : ℤ → List ℕ
moment_text seconds = date_text (date_of seconds) ++ 84 ∷ time_text (second_of_day seconds)
