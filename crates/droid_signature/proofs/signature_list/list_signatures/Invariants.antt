-- The signatures of the first formats.
use Rattle.std.proofs.Common.{List, take}
use Rattle.droid_signature_file.specs.Records.{SignatureRecord}
use Rattle.droid_signature.specs.Views.{all_of}
use Rattle.droid_signature.specs.Outcomes.{AreOutcomesOf}
use Rattle.droid_signature.specs.Signatures.{Signs, all_signatures}
use Rattle.droid_signature.proofs.signature_list.list_signatures.Given as goal

abbrev pub invariant-loop-place : goal.invariant-loop-place
invariant-loop-place l = (signatures : List SignatureRecord) → AreOutcomesOf signatures l.outcomes → Signs signatures (all_signatures (take l.place (all_of l.kept))) l.table
