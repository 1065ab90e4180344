-- Numbers of bytes and of seconds as they are printed (this project's own).
use Rattle.std.specs.Prelude.{ℕ, ◌-◌, ◌*◌, ◌/◌, ◌%◌, ◌^◌, min, max, List, ◌++◌, codes, decimal, nat_lt, if◌then◌else◌}

-- the number, or the greatest that fits 64 bits
abbrev pub saturated : ℕ → ℕ
saturated n = min n (2 ^ 64 - 1)

-- the unit for a number of bytes: the first in which it has at most four digits, or GB
unfoldable pub unit_bytes : ℕ → ℕ
unit_bytes n =
    if nat_lt n 10_000 then 1
    else (if nat_lt n 10_000_000 then 1_000 else (if nat_lt n 10_000_000_000 then 1_000_000 else 1_000_000_000))

-- the name of this unit
unfoldable pub unit_name : ℕ → List ℕ
unit_name n =
    if nat_lt n 10_000 then codes "bytes"
    else (if nat_lt n 10_000_000 then codes "kB" else (if nat_lt n 10_000_000_000 then codes "MB" else codes "GB"))

-- how many per second, given the milliseconds; less than one millisecond counts as one
abbrev pub rate_of : ℕ → ℕ → ℕ
rate_of count milliseconds = saturated (count * 1_000) / max milliseconds 1

-- seconds, minutes, or hours and minutes
unfoldable pub span_text : ℕ → List ℕ
span_text s =
    if nat_lt s 100 then decimal s ++ codes " s"
    else (if nat_lt s 6_000 then decimal (s / 60) ++ codes " min"
    else decimal (s / 60 / 60) ++ (codes " h " ++ (decimal (s / 60 % 60) ++ codes " min")))

-- a number of bytes per second
unfoldable pub speed_text : ℕ → List ℕ
speed_text n = decimal (n / unit_bytes n) ++ (codes " " ++ (unit_name n ++ codes "/s"))
