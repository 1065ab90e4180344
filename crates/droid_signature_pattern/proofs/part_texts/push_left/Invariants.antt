-- What is left to append completes the levels.
use Rattle.std.proofs.Common.{◌≡◌, ◌++◌, ◌-◌, map}
use Rattle.droid_signature_pattern.specs.Written.{written_each}
use Rattle.droid_signature_pattern.specs.Parts.{left_levels}
use Rattle.droid_signature_pattern.proofs.part_texts.push_left.Given as goal

abbrev pub invariant-loop-place : goal.invariant-loop-place
invariant-loop-place l = l.levels.items ++ map written_each (left_levels l.fragments (l.outer - l.place)) ≡ l.initial.levels.items ++ map written_each (left_levels l.fragments l.outer)
