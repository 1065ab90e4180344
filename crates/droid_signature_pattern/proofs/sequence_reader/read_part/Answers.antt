-- A subsequence is read, or one of its parts is not.
use Rattle.std.proofs.Common.{inl, inr, sym, ap, ◌∙◌, subst}
use Rattle.droid_signature_file.specs.Meaning.{lowest}
use Rattle.droid_signature_pattern.proofs.Exits.{left_out, passed_on}
use Rattle.droid_signature_pattern.specs.Parts.{IsReadPart, ReadPart}
use Rattle.droid_signature_pattern.specs.Reasons.{IsReasonOfPart, IsReasonOfSide, IsReasonOfText}
use Rattle.droid_signature_pattern.proofs.sequence_reader.read_part.Goals as goal

pub returns-in_err-least-clause-err : goal.returns-in_err-least-clause-err
returns-in_err-least-clause-err c = left_out (λ reason. IsReasonOfPart reason c.args.part.now) c.from_residual.result _ c.from_residual.ensures.1 (inl (rw c.offsets.ensures at c.in_err-least.ensures.err))

pub returns-in_err-left-clause-err : goal.returns-in_err-left-clause-err
returns-in_err-left-clause-err c = passed_on (λ reason. IsReasonOfPart reason c.args.part.now) (IsReasonOfSide c.left.result.now) c.from_residual-in_err-left.result _ c.from_residual-in_err-left.ensures.1 (λ reason h. inr (inl (rw c.left.ensures at h))) c.in_err-left.ensures.err

pub returns-in_err-terms-clause-err : goal.returns-in_err-terms-clause-err
returns-in_err-terms-clause-err c = passed_on (λ reason. IsReasonOfPart reason c.args.part.now) (IsReasonOfText c.text.result.now) c.from_residual-in_err-terms.result _ c.from_residual-in_err-terms.ensures.1 (λ reason h. inr (inr (inl (rw c.text.ensures at h)))) c.in_err-terms.ensures.err

pub returns-in_err-right-clause-err : goal.returns-in_err-right-clause-err
returns-in_err-right-clause-err c = passed_on (λ reason. IsReasonOfPart reason c.args.part.now) (IsReasonOfSide c.right.result.now) c.from_residual-in_err-right.result _ c.from_residual-in_err-right.ensures.1 (λ reason h. inr (inr (inr (rw c.right.ensures at h)))) c.in_err-right.ensures.err

pub returns-clause-ok : goal.returns-clause-ok
returns-clause-ok c =
    let P : ReadPart → Type 0 = λ read. IsReadPart c.args.part.now read in
    subst P (sym c.new.ensures) (record {
      least = c.in_ok-least.ensures.ok.0 ∙ ap lowest c.offsets.ensures;
      small = c.in_ok-least.ensures.ok.1;
      left = rw c.left.ensures at c.in_ok-left.ensures.ok;
      text = rw c.text.ensures at c.in_ok-terms.ensures.ok;
      right = rw c.right.ensures at c.in_ok-right.ensures.ok;
      left_positions = rw c.left.ensures at c.in_ok-left.ensures.positions;
      right_positions = rw c.right.ensures at c.in_ok-right.ensures.positions;
    })
