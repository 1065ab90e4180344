-- What each signature of a file becomes.
use Rattle.std.specs.Prelude.{List, [], ◌∷◌, ⊤}
use Rattle.droid_signature_pattern.specs.Choices.{AreTaken, IsReasonOf}
use Rattle.droid_signature_file.specs.Records.{SignatureRecord}
use Rattle.droid_signature.specs.Holdings.{AreOf}
use Rattle.droid_signature.specs.declared.left_out.Why.{Why}
use Rattle.droid_signature.specs.declared.left_out.Why.TheVariants as why
use Rattle.droid_signature.specs.Signatures.{ids_of}
use Rattle.droid_signature.specs.declared.outcomes.Outcome.{Outcome}
use Rattle.droid_signature.specs.declared.outcomes.Outcome.TheVariants as outcomes
use Rattle.droid_signature.specs.declared.outcomes.Outcomes.{Outcomes}

-- what a signature becomes is true of it
abbrev pub IsOutcome : SignatureRecord → Outcome → Type 0
IsOutcome signature (outcomes.Taken all) = AreTaken signature.sequences all.items
IsOutcome signature (outcomes.LeftOut reason) = IsReasonOf signature.sequences reason

-- what each signature becomes is true of it
abbrev pub AreOutcomes : List SignatureRecord → List Outcome → Type 0
AreOutcomes [] [] = ⊤
AreOutcomes [] (outcome ∷ more) = ⊥
AreOutcomes (signature ∷ signatures) [] = ⊥
AreOutcomes (signature ∷ signatures) (outcome ∷ more) = IsOutcome signature outcome × AreOutcomes signatures more

-- why nothing stands for a signature
abbrev pub IsReasonHere : SignatureRecord → Why → Type 0
IsReasonHere signature (why.Signature reason) = IsReasonOf signature.sequences reason
IsReasonHere signature other = ⊥

-- what each signature of a file becomes, by its ID
pub record AreOutcomesOf (signatures : List SignatureRecord) (it : Outcomes) : Type 0 where
  pub ids : AreOf it.ids (ids_of signatures)
  pub each : AreOutcomes signatures it.outcomes.items
