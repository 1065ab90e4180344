-- The cells so far stand for the tokens so far, whatever is written into the pool later.
use Rattle.std.proofs.Common.{◌≡◌, ◌++◌, ℕ, List, map, take}
use Rattle.std.specs.List.{flat_map}
use Rattle.droid_pattern.specs.Tokens.{element_of}
use Rattle.droid_pattern.specs.Cells.{elements_at}
use Rattle.droid_pattern.proofs.compact_form.pack.Given as goal

abbrev pub invariant-loop-token : goal.invariant-loop-token
invariant-loop-token l = (more : List ℕ) → flat_map (elements_at (l.pool.items ++ more)) l.cells.items ≡ map element_of (take l.token-index l.tokens)
