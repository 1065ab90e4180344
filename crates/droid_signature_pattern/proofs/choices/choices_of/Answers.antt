-- What the byte sequences become.
use Rattle.droid_signature_pattern.proofs.Exits.{passed_on}
use Rattle.droid_signature_pattern.specs.Choices.{IsReasonOf}
use Rattle.droid_signature_pattern.proofs.choices.choices_of.Goals as goal

pub returns-in_err-all-clause-left_out : goal.returns-in_err-all-clause-left_out
returns-in_err-all-clause-left_out c = passed_on (IsReasonOf c.args.signature.now.sequences) (IsReasonOf c.sequences.result.now) c.from_residual.result _ c.from_residual.ensures.1 (λ reason h. rw c.sequences.ensures at h) c.in_err-all.ensures.left_out

pub returns-clause-taken : goal.returns-clause-taken
returns-clause-taken c = rw c.sequences.ensures at c.in_ok-all.ensures.taken
