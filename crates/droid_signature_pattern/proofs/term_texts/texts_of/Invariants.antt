-- What the lists of the first terms give, one behind the other.
use Rattle.std.proofs.Common.{◌≡◌, map, take}
use Rattle.droid_signature_pattern.specs.TermValues.{term_of}
use Rattle.droid_signature_pattern.specs.Texts.{joined_all}
use Rattle.droid_signature_pattern.proofs.TermLevels.{term_level}
use Rattle.droid_signature_pattern.proofs.term_texts.texts_of.Given as goal

abbrev pub invariant-loop-term : goal.invariant-loop-term
invariant-loop-term l = l.growing ≡ joined_all (take l.term-index (map term_level (map term_of l.terms)))
