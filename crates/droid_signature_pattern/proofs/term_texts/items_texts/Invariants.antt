-- What the lists of the first items give, one behind the other.
use Rattle.std.proofs.Common.{◌≡◌, map, take}
use Rattle.droid_signature_pattern.specs.TermValues.{atom_of}
use Rattle.droid_signature_pattern.specs.Texts.{joined_all}
use Rattle.droid_signature_pattern.proofs.TermLevels.{atom_level}
use Rattle.droid_signature_pattern.proofs.term_texts.items_texts.Given as goal

abbrev pub invariant-loop-item : goal.invariant-loop-item
invariant-loop-item l = l.growing ≡ joined_all (take l.item-index (map atom_level (map atom_of l.items)))
