-- The estimate of how far a walk is, and its text (this project's own).
use Rattle.std.specs.Prelude.{ℕ, ◌+◌, ◌-◌, ◌*◌, ◌/◌, List, [], ◌++◌, Option, Some, None, codes, decimal, nat_lt}
use Rattle.std.specs.Prelude.{if◌then◌else◌}
use Rattle.droid_tree.specs.declared.tree_size.Counted.{Counted}
use Rattle.droid_terminal.specs.Units.{saturated, rate_of, unit_bytes, unit_name, span_text, speed_text}
use Rattle.droid_terminal.specs.declared.estimate.Amount.{Amount}
use Rattle.droid_terminal.specs.declared.estimate.Estimate.{Estimate}
use Rattle.droid_terminal.specs.declared.estimate.Progress.{Progress}

-- the whole amount of a tree that was counted; skipped entries are entries too
abbrev pub amount_of : Counted → Amount
amount_of counted = record {
  entries = saturated (saturated (counted.folders + counted.files) + counted.skipped);
  bytes = counted.bytes;
}

-- the work of this amount in bytes: each entry counts as 16,384 extra bytes
abbrev pub work_in : Amount → ℕ
work_in amount = saturated (saturated (amount.entries * 16_384) + amount.bytes)

-- the quotient, unless the divisor is 0
unfoldable pub quotient : ℕ → ℕ → Option ℕ
quotient n by = if nat_lt 0 by then Some (n / by) else None

-- the seconds left, at the rate of the work done so far
abbrev pub time_left : Estimate → Option ℕ
time_left p = quotient (work_in p.all - work_in p.done) (rate_of (work_in p.done) p.milliseconds)

-- the time left, if it is known
unfoldable pub left_text : Option ℕ → List ℕ
left_text None = []
left_text (Some seconds) = codes ", " ++ (span_text seconds ++ codes " left")

-- entries done and in all, bytes done and in all in the unit of all bytes, bytes per second, and the time left
unfoldable pub estimate_text : Estimate → List ℕ
estimate_text p =
    decimal p.done.entries ++ (codes " of " ++ (decimal p.all.entries ++ (codes " entries, "
    ++ (decimal (p.done.bytes / unit_bytes p.all.bytes)
    ++ (codes " of "
    ++ (decimal (p.all.bytes / unit_bytes p.all.bytes) ++ (codes " " ++ (unit_name p.all.bytes ++ (codes ", "
    ++ (speed_text (rate_of p.done.bytes p.milliseconds) ++ left_text (time_left p)))))))))))

-- entries done, bytes done in their unit, and bytes per second
unfoldable pub so_far_text : Amount → ℕ → List ℕ
so_far_text done milliseconds =
    decimal done.entries
    ++ (codes " entries, "
    ++ (decimal (done.bytes / unit_bytes done.bytes) ++ (codes " " ++ (unit_name done.bytes ++ (codes ", "
    ++ speed_text (rate_of done.bytes milliseconds))))))

-- by whether it is known how much there is
abbrev pub text_by : Option Amount → Amount → ℕ → List ℕ
text_by (Some all) done milliseconds = estimate_text (record { all = all; done = done; milliseconds = milliseconds })
text_by None done milliseconds = so_far_text done milliseconds

-- how far the walk is, with the time left if it is known how much there is
abbrev pub progress_text : Progress → List ℕ
progress_text progress = text_by progress.all progress.done progress.milliseconds
