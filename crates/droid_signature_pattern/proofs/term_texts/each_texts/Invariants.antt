-- The patterns of the first alternatives.
use Rattle.std.proofs.Common.{◌≡◌, map, take}
use Rattle.droid_signature_file.specs.Expansions.{patterns_of_each}
use Rattle.droid_signature_pattern.specs.Items.{items_of}
use Rattle.droid_signature_pattern.specs.Written.{written_each}
use Rattle.droid_signature_pattern.proofs.term_texts.each_texts.Given as goal

abbrev pub invariant-loop-items : goal.invariant-loop-items
invariant-loop-items l = l.texts ≡ written_each (patterns_of_each (take l.items-index (map items_of l.alternatives)))
