use Rattle.std.proofs.Common.{ℕ, ◌<◌, ◌≤◌, drop, IsUtf8}
use Rattle.droid_terminal.specs.Cuts.{columns_of}
use Rattle.droid_terminal.proofs.columns.end_within.Given as goal

abbrev pub invariant-loop-at : goal.invariant-loop-at
invariant-loop-at l = (n : ℕ) → l.from ≤ n → n < l.at → IsUtf8 (drop n l.text) → l.columns < columns_of (drop n l.text)
