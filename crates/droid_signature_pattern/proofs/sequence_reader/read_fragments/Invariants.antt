-- The first fragments are read.
use Rattle.std.proofs.Common.{take}
use Rattle.droid_signature_pattern.specs.Parts.{AreReadFragments}
use Rattle.droid_signature_pattern.proofs.sequence_reader.read_fragments.Given as goal

abbrev pub invariant-loop-fragment : goal.invariant-loop-fragment
invariant-loop-fragment l = AreReadFragments (take l.fragment-index l.fragments) l.read.items
