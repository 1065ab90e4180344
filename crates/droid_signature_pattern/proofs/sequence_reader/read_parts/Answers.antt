-- The subsequences are read, or one of them is not.
use Rattle.std.proofs.Common.{◌∷◌, inl, inr, refl, sym, ap, subst, ◌∙◌}
use Rattle.std.specs.List.{Any}
use Rattle.droid_signature_file.specs.Meaning.{lowest}
use Rattle.droid_signature_file.specs.declared.subsequence.OffsetRange.{OffsetRange}
use Rattle.droid_signature_pattern.proofs.Exits.{left_out, passed_on}
use Rattle.droid_signature_pattern.specs.Reasons.{IsReasonOfBounds, IsReasonOfFurther, IsReasonOfPart, IsReasonOfParts}
use Rattle.droid_signature_pattern.proofs.sequence_reader.read_parts.Goals as goal

pub returns-in_err-bounds-clause-err : goal.returns-in_err-bounds-clause-err
returns-in_err-bounds-clause-err c = left_out (λ reason. IsReasonOfParts reason (c.args.first.now ∷ c.args.further.now)) c.from_residual.result _ c.from_residual.ensures.1 (inl (let P : OffsetRange → Type 0 = λ offsets. IsReasonOfBounds offsets c.in_err-bounds.field-0.0 in subst P c.offsets.ensures c.in_err-bounds.ensures.err))

pub returns-in_err-first-clause-err : goal.returns-in_err-first-clause-err
returns-in_err-first-clause-err c = passed_on (λ reason. IsReasonOfParts reason (c.args.first.now ∷ c.args.further.now)) (λ reason. IsReasonOfPart reason c.args.first.now) c.from_residual-in_err-first.result _ c.from_residual-in_err-first.ensures.1 (λ reason h. inr (inl h)) c.in_err-first.ensures.err

pub returns-in_err-further-clause-err : goal.returns-in_err-further-clause-err
returns-in_err-further-clause-err c = passed_on (λ reason. IsReasonOfParts reason (c.args.first.now ∷ c.args.further.now)) (λ reason. Any (IsReasonOfFurther reason) c.args.further.now) c.from_residual-in_err-further.result _ c.from_residual-in_err-further.ensures.1 (λ reason h. inr (inr h)) c.in_err-further.ensures.err

pub returns-clause-ok : goal.returns-clause-ok
returns-clause-ok c =
    let bounds = c.in_ok-bounds.ensures.ok in
    record { same = refl; from_min = bounds.0 ∙ ap lowest c.offsets.ensures; to_max = sym (ap (λ (o : OffsetRange). o.max) c.offsets.ensures) ∙ bounds.1; ordered = bounds.2; small = bounds.3; is_first = c.in_ok-first.ensures.ok; are_rest = c.in_ok-further.ensures.ok; plain = c.in_ok-further.ensures.plain }
