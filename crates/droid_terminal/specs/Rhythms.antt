-- When a line of progress is printed (this project's own).
use Rattle.std.specs.Prelude.{◌≡◌, ◌⊎◌, ℕ, ◌+◌, ◌-◌, ◌*◌, ◌==◌, ◌≤◌, min, Bool, true, false, ◌&&◌, List, [], ◌∷◌}
use Rattle.std.specs.Prelude.{nat_lt, nat_le, count_by, if◌then◌else◌}
use Rattle.droid_terminal.specs.declared.verbosity.Verbosity.{Verbosity}
use Rattle.droid_terminal.specs.declared.verbosity.Verbosity.TheVariants.{Quiet, Lines, Terminal}

-- how much is printed, by whether that is asked to be nothing, and whether standard error is a terminal
abbrev pub verbosity_of : Bool → Bool → Verbosity
verbosity_of true on_terminal = Quiet
verbosity_of false true = Terminal
verbosity_of false false = Lines

-- a line is due at `now`, if the last one was printed at `reported`: on a terminal after a tenth of a second, elsewhere
-- after ten seconds
abbrev pub is_due : Verbosity → ℕ → ℕ → Bool
is_due Quiet reported now = false
is_due Lines reported now = nat_le 10_000 (now - reported)
is_due Terminal reported now = nat_le 100 (now - reported)

-- the milliseconds at which a line is printed, of those at which the reporter was called
abbrev pub reported_at : Verbosity → ℕ → List ℕ → List ℕ
reported_at verbosity reported [] = []
reported_at verbosity reported (now ∷ moments) =
    if is_due verbosity reported now then now ∷ reported_at verbosity now moments
    else reported_at verbosity reported moments

-- within the second that begins at this millisecond
abbrev pub is_within : ℕ → ℕ → Bool
is_within from at = nat_le from at && nat_lt at (from + 1_000)

-- At most ten lines are printed within any second, whenever the reporter is called, and even if the clock goes back.
unfoldable pub TenLinesASecond : Type 0
TenLinesASecond =
    (verbosity : Verbosity) (reported from : ℕ) (moments : List ℕ)
    → count_by (is_within from) (reported_at verbosity reported moments) ≤ 10

-- no line was printed, or one was due
abbrev pub IsReported : Verbosity → ℕ → Verbosity → ℕ → Type 0
IsReported verbosity reported verbosity_after reported_after =
    (verbosity_after ≡ verbosity) × ((reported_after ≡ reported) ⊎ (is_due verbosity reported reported_after ≡ true))

-- How many calls of the reporter pass until it reads the clock again: none, or where the clock shows what it showed
-- before, twice as many as the last time and one, up to 15.
abbrev pub calls_after : ℕ → ℕ → ℕ → ℕ
calls_after calls looked now = if now == looked then min (calls * 2 + 1) 15 else 0
