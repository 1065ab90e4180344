-- A line of progress (this project's own).
use Rattle.std.specs.Prelude.{◌≡◌, ℕ, ◌-◌, List, [], ◌∷◌, ◌++◌, length, codes, ◌==◌, nat_le, if◌then◌else◌}
use Rattle.droid_terminal.specs.Cuts.{columns_of, IsFront, IsEnd}
use Rattle.droid_terminal.specs.declared.verbosity.Verbosity.{Verbosity}
use Rattle.droid_terminal.specs.declared.verbosity.Verbosity.TheVariants.{Terminal}

-- how far the walk is and the end of the path; the first alone if the end is empty or if both do not fit
unfoldable pub joined_text : ℕ → List ℕ → List ℕ → List ℕ
joined_text columns far end =
    if length end == 0 then far
    else (if nat_le (columns_of (far ++ (codes ": " ++ end))) columns then far ++ (codes ": " ++ end) else far)

-- the beginning of the text that says how far the walk is, and the longest end of the printed path that fits behind it
pub record IsLine (columns : ℕ) (estimate path line : List ℕ) : Type 0 where
  pub far : List ℕ
  pub end : List ℕ
  pub is_far : IsFront estimate columns far
  pub is_end : IsEnd path (columns - columns_of far - 2) end
  pub text : line ≡ joined_text columns far end

-- a line with a line feed; on a terminal, one that replaces the line before and is cut at the terminal's width
unfoldable pub framed_text : Verbosity → List ℕ → List ℕ
framed_text Terminal line = 13 ∷ 27 ∷ (codes "[?7l" ++ (line ++ (27 ∷ (codes "[K" ++ (27 ∷ codes "[?7h")))))
framed_text other line = line ++ 10 ∷ []

-- how wide a line is at most
abbrev pub columns_for : Verbosity → ℕ
columns_for Terminal = 79
columns_for other = 160
