use Rattle.std.proofs.Common.{ℕ, ◌-◌, ◌<◌, ◌≤◌, take, IsUtf8}
use Rattle.droid_terminal.specs.Cuts.{columns_of}
use Rattle.droid_terminal.proofs.columns.front_within.Given as goal

abbrev pub invariant-loop-less : goal.invariant-loop-less
invariant-loop-less l = (n : ℕ) → l.most - l.less < n → n ≤ l.most → IsUtf8 (take n l.text) → l.columns < columns_of (take n l.text)
