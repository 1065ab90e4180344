-- One more subsequence, what a registry cannot hold, and all of them.
use Rattle.std.proofs.Common.{◌⊎◌, ◌+◌, map, refl, inl, inr, ⊎_elim, ap, ◌∙◌, arith}
use Rattle.std.proofs.lemmas.List.{take_all}
use Rattle.droid_signature_pattern.specs.Outcomes.{IsTooMuch}
use Rattle.droid_signature_pattern.specs.Texts.{joined, joined_all}
use Rattle.droid_signature_pattern.specs.Written.{written_each}
use Rattle.droid_signature_pattern.proofs.Exits.{any_at, passed_on}
use Rattle.droid_signature_pattern.specs.Parts.{row_levels}
use Rattle.droid_signature_pattern.specs.Reasons.{IsReasonOfFirstPart, IsReasonOfNextPart, IsReasonOfRow}
use Rattle.droid_signature_pattern.proofs.PartLevels.{levels_written, row_exceeds, row_first, row_more}
use Rattle.droid_signature_pattern.proofs.part_texts.row_texts.Goals as goal

pub returns-in_err-texts-clause-err : goal.returns-in_err-texts-clause-err
returns-in_err-texts-clause-err c = passed_on (IsReasonOfRow c.args.first.now c.args.further.now) (λ reason. IsReasonOfFirstPart reason c.args.first.now) c.from_residual.result _ c.from_residual.ensures.1
    (λ reason h. inl h) c.in_err-texts.ensures.err

pub returns-in_err-level-clause-err : goal.returns-in_err-level-clause-err
returns-in_err-level-clause-err c = passed_on (IsReasonOfRow c.args.first.now c.args.further.now) (λ reason. IsReasonOfNextPart reason c.part-item.result) c.from_residual-in_err-level.result _ c.from_residual-in_err-level.ensures.1
    (λ reason h. inr (inl (any_at (IsReasonOfNextPart reason) c.args.further.now c.loop-part.part-index c.part-item.result (omega arith) c.part-item.is h))) c.in_err-level.ensures.err

pub returns-in_err-push-clause-err : goal.returns-in_err-push-clause-err
returns-in_err-push-clause-err c =
    let first = c.args.first.now in
    let further = c.args.further.now in
    let i = c.loop-part.part-index in
    let grown = row_more first further i c.part-item.result c.loop-part.growing c.in_ok-level.level (joined c.loop-part.growing c.in_ok-level.level) (omega arith) c.part-item.is c.loop-part.invariant c.in_ok-level.ensures.ok refl in
    passed_on (IsReasonOfRow first further) (λ reason. IsTooMuch c.loop-part.growing reason ⊎ IsTooMuch (joined c.loop-part.growing c.in_ok-level.level) reason) c.from_residual-in_err-push.result _ c.from_residual-in_err-push.ensures.1
    (λ reason h. inr (inr (⊎_elim (λ a. row_exceeds first further i c.loop-part.growing reason c.loop-part.invariant a) (λ b. row_exceeds first further (i + 1) (joined c.loop-part.growing c.in_ok-level.level) reason grown b) h))) c.in_err-push.ensures.err

pub returns-in_err-texts-2-clause-err : goal.returns-in_err-texts-2-clause-err
returns-in_err-texts-2-clause-err c =
    passed_on (IsReasonOfRow c.args.first.now c.args.further.now) (IsTooMuch c.loop-part.growing) c.from_residual-in_err-texts-2.result _ c.from_residual-in_err-texts-2.ensures.1
    (λ reason h. inr (inr (row_exceeds c.args.first.now c.args.further.now c.loop-part.part-index c.loop-part.growing reason c.loop-part.invariant h))) c.in_err-texts-2.ensures.err

pub loop-part-preserved : goal.loop-part-preserved
loop-part-preserved c = row_more c.args.first.now c.args.further.now c.loop-part.part-index c.part-item.result c.loop-part.growing c.in_ok-level.level _ (omega arith) c.part-item.is c.loop-part.invariant c.in_ok-level.ensures.ok c.in_ok-push.ensures.ok

pub loop-part-init : goal.loop-part-init
loop-part-init c = c.of-growing.ensures ∙ c.in_ok-texts.ensures.ok ∙ row_first c.args.first.now

pub returns-clause-ok : goal.returns-clause-ok
returns-clause-ok c =
    c.in_ok-texts-2.ensures.ok ∙ c.loop-part.invariant
    ∙ ap (λ l. joined_all (map written_each (row_levels c.args.first.now l))) (take_all c.loop-part.part-index c.args.further.now (omega arith))
    ∙ levels_written (row_levels c.args.first.now c.args.further.now)
