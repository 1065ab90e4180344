-- The rows of the first ways.
use Rattle.std.proofs.Common.{◌≡◌, ◌++◌}
use Rattle.droid_signature.specs.Combinations.{lines_below}
use Rattle.droid_signature.proofs.combination.push_combinations.Given as goal

abbrev pub invariant-loop-number : goal.invariant-loop-number
invariant-loop-number l = l.text.items ≡ l.initial.text.items ++ lines_below l.puid l.all l.number
