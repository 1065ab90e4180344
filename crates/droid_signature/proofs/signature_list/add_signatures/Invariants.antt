-- The first signatures.
use Rattle.std.proofs.Common.{List, ℕ, ◌++◌, take}
use Rattle.droid_signature_file.specs.Records.{SignatureRecord}
use Rattle.droid_signature.specs.Views.{kept_of}
use Rattle.droid_signature.specs.Outcomes.{AreOutcomesOf}
use Rattle.droid_signature.specs.Signatures.{Named, Signs, signatures_of}
use Rattle.droid_signature.proofs.signature_list.add_signatures.Given as goal

abbrev pub invariant-loop-at : goal.invariant-loop-at
invariant-loop-at l = (signatures : List SignatureRecord) (xs : List Named) (place : ℕ) → AreOutcomesOf signatures l.outcomes → Signs signatures xs l.fn.table
    → Signs signatures (xs ++ signatures_of place (kept_of l.of) (take l.at l.ids)) l.table
