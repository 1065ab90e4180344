-- The count of handled lines (this project's own rule).
use Rattle.std.specs.Prelude.{◌≡◌, ◌+◌, ℕ, Bool, List, length}
use Rattle.std.specs.Bool.{if◌then◌else◌}
use Rattle.std.specs.List.{count_by}
use Rattle.droid_lines.specs.declared.tally.Tally.{Tally}

-- all lines, and the bad ones among them
pub record Counts (is_bad : List ℕ → Bool) (tally : Tally) (lines : List (List ℕ)) : Type 0 where
  pub lines_are : tally.lines ≡ length lines
  pub bad_are : tally.bad ≡ count_by is_bad lines

-- one more line
abbrev pub with_one_more : Bool → Tally → Tally
with_one_more is_bad tally = record { lines = tally.lines + 1; bad = tally.bad + (if is_bad then 1 else 0) }
