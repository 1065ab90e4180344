-- One more subsequence, one that is not read, and all of them.
use Rattle.std.proofs.Common.{◌++◌, ◌∷◌, [], ◌∙◌, take, arith, ap, subst, sym, List}
use Rattle.std.specs.List.{AllByRecursion, Any}
use Rattle.std.proofs.lemmas.List.{take_all, take_more}
use Rattle.droid_signature_file.specs.Records.{SubSequenceRecord}
use Rattle.droid_signature_pattern.proofs.Exits.{all_append, any_at, passed_on}
use Rattle.droid_signature_pattern.specs.Parts.{AreReadParts}
use Rattle.droid_signature_pattern.specs.Reasons.{HasNoUpper, IsReasonOfFurther}
use Rattle.droid_signature_pattern.proofs.ReadTexts.{parts_more}
use Rattle.droid_signature_pattern.proofs.sequence_reader.read_further.Goals as goal

pub returns-in_err-more-clause-err : goal.returns-in_err-more-clause-err
returns-in_err-more-clause-err c = passed_on (λ reason. Any (IsReasonOfFurther reason) c.args.parts.now) (λ reason. IsReasonOfFurther reason c.part-item.result) c.from_residual.result _ c.from_residual.ensures.1
    (λ reason h. any_at (IsReasonOfFurther reason) c.args.parts.now c.loop-part.part-index c.part-item.result (omega arith) c.part-item.is h) c.in_err-more.ensures.err

pub loop-part-preserved : goal.loop-part-preserved
loop-part-preserved c =
    let parts = c.args.parts.now in
    let i = c.loop-part.part-index in
    let part = c.part-item.result in
    let Q : List SubSequenceRecord → Type 0 = λ l. AllByRecursion HasNoUpper l in (
      parts_more parts i part c.loop-part.read.items c.push.new.self.items c.in_ok-more.more (omega arith) c.part-item.is c.loop-part.invariant.0 c.in_ok-more.ensures.ok c.in_ok-push.ensures.items,
      subst Q (ap (λ (y : SubSequenceRecord). take i parts ++ y ∷ []) c.part-item.is ∙ sym (take_more parts i part (omega arith))) (all_append HasNoUpper (take i parts) (part ∷ []) c.loop-part.invariant.1 (c.in_ok-more.ensures.plain, tt)),
    )

pub returns-clause-ok : goal.returns-clause-ok
returns-clause-ok c =
    let P : List SubSequenceRecord → Type 0 = λ l. AreReadParts l c.loop-part.read.items in
    subst P (take_all c.loop-part.part-index c.args.parts.now (omega arith)) c.loop-part.invariant.0

pub returns-clause-plain : goal.returns-clause-plain
returns-clause-plain c =
    let P : List SubSequenceRecord → Type 0 = λ l. AllByRecursion HasNoUpper l in
    subst P (take_all c.loop-part.part-index c.args.parts.now (omega arith)) c.loop-part.invariant.1
