-- The texts of the first fragments.
use Rattle.std.proofs.Common.{◌≡◌, take}
use Rattle.droid_signature_pattern.specs.Written.{written_each}
use Rattle.droid_signature_pattern.specs.Parts.{level}
use Rattle.droid_signature_pattern.proofs.part_texts.level_texts.Given as goal

abbrev pub invariant-loop-fragment : goal.invariant-loop-fragment
invariant-loop-fragment l = l.texts ≡ written_each (level l.from l.position (take l.fragment-index l.fragments))
