-- Which texts are moments: a date and a time of day, as `yyyy-mm-ddThh:mm:ss` (ISO 8601).
use Rattle.std.specs.Prelude.{ℕ, ◌==◌, ◌&&◌, ◌+◌, ◌-◌, ◌*◌, nat_lt, nat_le, Bool, List, slice_index, if◌then◌else◌, pos}
use Rattle.std.specs.Char.{is_ascii_digit}
use Rattle.jiff_core.specs.Calendar.{days_in_month}

-- the number that two decimal digits stand for, and 10,000 for other bytes, which no part of a moment reaches
abbrev pub two_of : ℕ → ℕ → ℕ
two_of a b = if is_ascii_digit a && is_ascii_digit b then (a - 48) * 10 + (b - 48) else 10000

-- the same of the two bytes from a place on
abbrev pub two_at : List ℕ → ℕ → ℕ
two_at text place = two_of (slice_index text place) (slice_index text (place + 1))

-- a date of the calendar from 0001-01-01 to 9999-12-31
abbrev pub is_date : ℕ → ℕ → ℕ → Bool
is_date year month day =
    nat_lt 0 year && nat_lt year 10000 && nat_lt 0 month && nat_lt month 13 && nat_lt 0 day
    && nat_le day (days_in_month (pos year) month)

-- a time of day
abbrev pub is_time : ℕ → ℕ → ℕ → Bool
is_time hour minute second = nat_lt hour 24 && nat_lt minute 60 && nat_lt second 60

-- the marks between the numbers
abbrev pub has_marks : List ℕ → Bool
has_marks text =
    (slice_index text 4 == 45) && (slice_index text 7 == 45) && (slice_index text 10 == 84)
    && (slice_index text 13 == 58) && (slice_index text 16 == 58)

-- whether 19 bytes are a moment
unfoldable pub is_moment : List ℕ → Bool
is_moment text =
    has_marks text && is_date (two_at text 0 * 100 + two_at text 2) (two_at text 5) (two_at text 8)
    && is_time (two_at text 11) (two_at text 14) (two_at text 17)
