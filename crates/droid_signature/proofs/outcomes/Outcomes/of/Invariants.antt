-- What the first signatures become.
use Rattle.std.proofs.Common.{take}
use Rattle.droid_signature.specs.Holdings.{AreOf}
use Rattle.droid_signature.specs.Outcomes.{AreOutcomes}
use Rattle.droid_signature.specs.Signatures.{ids_of}
use Rattle.droid_signature.proofs.outcomes.Outcomes.of.Given as goal

abbrev pub invariant-loop-place : goal.invariant-loop-place
invariant-loop-place l = record { ids : AreOf l.ids (ids_of (take l.place l.signatures)); each : AreOutcomes (take l.place l.signatures) l.outcomes.items }
