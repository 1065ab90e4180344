-- What the first subsequences give.
use Rattle.std.proofs.Common.{◌≡◌, map, take}
use Rattle.droid_signature_pattern.specs.Texts.{joined_all}
use Rattle.droid_signature_pattern.specs.Written.{written_each}
use Rattle.droid_signature_pattern.specs.Parts.{row_levels}
use Rattle.droid_signature_pattern.proofs.part_texts.row_texts.Given as goal

abbrev pub invariant-loop-part : goal.invariant-loop-part
invariant-loop-part l = l.growing ≡ joined_all (map written_each (row_levels l.first (take l.part-index l.further)))
