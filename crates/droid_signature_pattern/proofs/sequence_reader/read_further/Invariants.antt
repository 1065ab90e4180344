-- The first subsequences are read, and have no upper offset.
use Rattle.std.proofs.Common.{take}
use Rattle.std.specs.List.{AllByRecursion}
use Rattle.droid_signature_pattern.specs.Reasons.{HasNoUpper}
use Rattle.droid_signature_pattern.specs.Parts.{AreReadParts}
use Rattle.droid_signature_pattern.proofs.sequence_reader.read_further.Given as goal

abbrev pub invariant-loop-part : goal.invariant-loop-part
invariant-loop-part l = AreReadParts (take l.part-index l.parts) l.read.items × AllByRecursion HasNoUpper (take l.part-index l.parts)
