-- One more fragment, and what a registry cannot hold.
use Rattle.std.proofs.Common.{◌+◌, ◌++◌, inl, inr, ap, ◌∙◌, arith}
use Rattle.std.proofs.lemmas.List.{take_all}
use Rattle.droid_signature_pattern.specs.Outcomes.{IsTooMuch}
use Rattle.droid_signature_pattern.specs.Written.{written_each}
use Rattle.droid_signature_pattern.proofs.Exits.{any_at, passed_on}
use Rattle.droid_signature_pattern.specs.Parts.{level}
use Rattle.droid_signature_pattern.specs.Reasons.{IsReasonOfLevel, IsReasonOfReadFragment}
use Rattle.droid_signature_pattern.proofs.PartLevels.{level_more}
use Rattle.droid_signature_pattern.proofs.part_texts.level_texts.Goals as goal

pub returns-in_err-more-clause-err : goal.returns-in_err-more-clause-err
returns-in_err-more-clause-err c = passed_on (IsReasonOfLevel c.args.from c.args.position c.args.fragments.now) (λ reason. IsReasonOfReadFragment c.args.from reason c.fragment-item.result) c.from_residual.result _ c.from_residual.ensures.1
    (λ reason h. inl (any_at (IsReasonOfReadFragment c.args.from reason) c.args.fragments.now c.loop-fragment.fragment-index c.fragment-item.result (omega arith) c.fragment-item.is h)) c.in_err-more.ensures.err

pub returns-in_err-add_all-clause-err : goal.returns-in_err-add_all-clause-err
returns-in_err-add_all-clause-err c =
    let grown = level_more c.args.from c.args.position c.args.fragments.now c.loop-fragment.fragment-index c.fragment-item.result c.loop-fragment.texts c.in_ok-more.more (omega arith) c.fragment-item.is c.loop-fragment.invariant c.in_ok-more.ensures.ok in
    passed_on (IsReasonOfLevel c.args.from c.args.position c.args.fragments.now) (IsTooMuch (c.loop-fragment.texts ++ c.in_ok-more.more)) c.from_residual-in_err-add_all.result _ c.from_residual-in_err-add_all.ensures.1
    (λ reason h. inr (c.loop-fragment.fragment-index + 1, rw grown at h)) c.in_err-add_all.ensures.err

pub loop-fragment-preserved : goal.loop-fragment-preserved
loop-fragment-preserved c =
    c.in_ok-add_all.ensures.ok
    ∙ level_more c.args.from c.args.position c.args.fragments.now c.loop-fragment.fragment-index c.fragment-item.result c.loop-fragment.texts c.in_ok-more.more (omega arith) c.fragment-item.is c.loop-fragment.invariant c.in_ok-more.ensures.ok

pub returns-clause-ok : goal.returns-clause-ok
returns-clause-ok c = c.loop-fragment.invariant ∙ ap (λ l. written_each (level c.args.from c.args.position l)) (take_all c.loop-fragment.fragment-index c.args.fragments.now (omega arith))
