-- A fragment is read, or its offsets or its text are not.
use Rattle.std.proofs.Common.{◌≡◌, inl, inr, refl, sym, subst}
use Rattle.droid_signature_pattern.proofs.Exits.{left_out, passed_on}
use Rattle.droid_signature_pattern.specs.Parts.{IsReadFragment, ReadFragment}
use Rattle.droid_signature_pattern.specs.Reasons.{IsReasonOfFragment, IsReasonOfText}
use Rattle.droid_signature_pattern.proofs.sequence_reader.read_fragment.Goals as goal

pub returns-in_err-bounds-clause-err : goal.returns-in_err-bounds-clause-err
returns-in_err-bounds-clause-err c = left_out (λ reason. IsReasonOfFragment reason c.args.fragment.now) c.from_residual.result _ c.from_residual.ensures.1 (inl c.in_err-bounds.ensures.err)

pub returns-in_err-terms-clause-err : goal.returns-in_err-terms-clause-err
returns-in_err-terms-clause-err c =
    let same : c.as_str.result.now ≡ c.args.fragment.now.text = c.as_str.ensures.value in
    passed_on (λ reason. IsReasonOfFragment reason c.args.fragment.now) (IsReasonOfText c.as_str.result.now) c.from_residual-in_err-terms.result _ c.from_residual-in_err-terms.ensures.1 (λ reason h. inr (rw same at h)) c.in_err-terms.ensures.err

pub returns-clause-ok : goal.returns-clause-ok
returns-clause-ok c =
    let P : ReadFragment → Type 0 = λ it. IsReadFragment c.args.fragment.now it in
    let bounds = c.in_ok-bounds.ensures.ok in
    let same : c.as_str.result.now ≡ c.args.fragment.now.text = c.as_str.ensures.value in
    let text = rw same at c.in_ok-terms.ensures.ok in
    subst P (sym c.new.ensures) (record {
      side = record { position = refl; least = bounds.0; most = bounds.1; ordered = bounds.2; patterns = text.patterns };
      small = bounds.3;
      text = text;
    })
