-- Which formats are printed (this project's own).
use Rattle.std.specs.Prelude.{◌≡◌, ℕ, ◌-◌, ◌^◌, List, take, String, string_bytes, IsPermutation, IsSortedByKey}
use Rattle.std.specs.List.Sorted.{IsStableByKey}
use Rattle.std.specs.Ordering.{nat_cmp}
use Rattle.droid_terminal.specs.declared.format_counts.FormatCount.{FormatCount}

-- a format by its identifier, and how many files have it
abbrev pub format_of : {Y : Type 0} → String Y × ℕ → FormatCount
format_of format = record { puid = string_bytes format.0; count = format.1 }

-- greater for less frequent formats
abbrev pub rareness : FormatCount → ℕ
rareness format = 2 ^ 64 - 1 - format.count

-- The first ten of all formats, sorted: the most frequent first, and formats with equal counts in the order that they
-- had.
pub record AreMostFrequent (all reported : List FormatCount) : Type 0 where
  pub sorted : List FormatCount
  pub same : IsPermutation all sorted
  pub in_order : IsSortedByKey rareness nat_cmp sorted
  pub ties : IsStableByKey rareness nat_cmp all sorted
  pub first : reported ≡ take 10 sorted
