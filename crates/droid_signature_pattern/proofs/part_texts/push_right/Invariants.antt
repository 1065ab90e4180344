-- The levels up to a position.
use Rattle.std.proofs.Common.{◌≡◌, ◌++◌, map}
use Rattle.droid_signature_pattern.specs.Written.{written_each}
use Rattle.droid_signature_pattern.specs.Parts.{right_levels}
use Rattle.droid_signature_pattern.proofs.part_texts.push_right.Given as goal

abbrev pub invariant-loop-place : goal.invariant-loop-place
invariant-loop-place l = l.levels.items ≡ l.initial.levels.items ++ map written_each (right_levels l.fragments l.place)
