-- The levels of a subsequence behind an open gap.
use Rattle.std.proofs.Common.{◌++◌, ◌∷◌, [], map, inl, inr, ap, ◌∙◌}
use Rattle.droid_pattern.specs.Patterns.{OpenGap}
use Rattle.droid_signature_pattern.specs.Outcomes.{AreTooMuch}
use Rattle.droid_signature_pattern.specs.Texts as texts
use Rattle.droid_signature_pattern.specs.Written.{written_each}
use Rattle.droid_signature_pattern.proofs.Exits.{passed_on}
use Rattle.droid_signature_pattern.specs.Parts.{part_levels}
use Rattle.droid_signature_pattern.specs.Reasons.{IsReasonOfNextPart, IsReasonOfReadPart}
use Rattle.droid_signature_pattern.proofs.part_texts.next_texts.Goals as goal

pub returns-in_err-push_part-clause-err : goal.returns-in_err-push_part-clause-err
returns-in_err-push_part-clause-err c = passed_on (λ reason. IsReasonOfNextPart reason c.args.part.now) (λ reason. IsReasonOfReadPart reason c.args.part.now) c.from_residual-in_err-push_part.result _ c.from_residual-in_err-push_part.ensures.1
    (λ reason h. inl h) c.in_err-push_part.ensures.err

pub returns-in_err-texts-clause-err : goal.returns-in_err-texts-clause-err
returns-in_err-texts-clause-err c =
    let gap = c.in_ok-push_open_gap.ensures ∙ ap (λ n. c.new-levels.result.items ++ written_each ((OpenGap n ∷ []) ∷ []) ∷ []) c.least.ensures ∙ ap (λ l. l ++ written_each ((OpenGap c.args.part.now.least ∷ []) ∷ []) ∷ []) c.new-levels.ensures.items in
    let all = c.in_ok-push_part.ensures.ok ∙ ap (λ l. l ++ map written_each (part_levels c.args.part.now)) gap in
    passed_on (λ reason. IsReasonOfNextPart reason c.args.part.now) (AreTooMuch c.as_slice.result.now) c.from_residual-in_err-texts.result _ c.from_residual-in_err-texts.ensures.1
    (λ reason h. inr (rw (c.as_slice.ensures.value, all) at h)) c.in_err-texts.ensures.err

pub returns-clause-ok : goal.returns-clause-ok
returns-clause-ok c =
    let gap = c.in_ok-push_open_gap.ensures ∙ ap (λ n. c.new-levels.result.items ++ written_each ((OpenGap n ∷ []) ∷ []) ∷ []) c.least.ensures ∙ ap (λ l. l ++ written_each ((OpenGap c.args.part.now.least ∷ []) ∷ []) ∷ []) c.new-levels.ensures.items in
    let all = c.in_ok-push_part.ensures.ok ∙ ap (λ l. l ++ map written_each (part_levels c.args.part.now)) gap in
    c.in_ok-texts.ensures.ok ∙ ap texts.joined_all (c.as_slice.ensures.value ∙ all)
