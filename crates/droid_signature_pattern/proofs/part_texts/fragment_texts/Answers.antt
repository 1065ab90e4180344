-- A fragment and its gap.
use Rattle.std.proofs.Common.{inl, inr, ap, ◌∙◌}
use Rattle.droid_signature_file.specs.Expansions.{patterns_of}
use Rattle.droid_signature_file.specs.Pieces.{gap_patterns}
use Rattle.droid_signature_pattern.specs.Outcomes.{AreTooMuch, IsReasonOfTerms}
use Rattle.droid_signature_pattern.specs.Texts as texts
use Rattle.droid_signature_pattern.specs.Written.{written_each}
use Rattle.droid_signature_pattern.proofs.Exits.{passed_on}
use Rattle.droid_signature_pattern.specs.Parts.{in_order, side_levels}
use Rattle.droid_signature_pattern.specs.Reasons.{IsReasonOfReadFragment}
use Rattle.droid_signature_pattern.proofs.PartLevels.{in_order_map, levels_written}
use Rattle.droid_signature_pattern.proofs.part_texts.fragment_texts.Goals as goal

pub returns-in_err-own-clause-err : goal.returns-in_err-own-clause-err
returns-in_err-own-clause-err c = passed_on (λ reason. IsReasonOfReadFragment c.args.from reason c.args.fragment.now) (λ reason. IsReasonOfTerms c.args.fragment.now.terms reason) c.from_residual.result _ c.from_residual.ensures.1
    (λ reason h. inl h) (rw c.terms.ensures at c.in_err-own.ensures.err)

pub returns-in_err-texts-clause-err : goal.returns-in_err-texts-clause-err
returns-in_err-texts-clause-err c =
    let own = c.in_ok-own.ensures.ok ∙ ap (λ ts. written_each (patterns_of ts)) c.terms.ensures in
    let gap = c.in_ok-gap.ensures ∙ ap (λ n. written_each (gap_patterns n c.most.result)) c.least.ensures ∙ ap (λ n. written_each (gap_patterns c.args.fragment.now.least n)) c.most.ensures in
    let all = c.in_ok-levels.ensures ∙ ap (λ x. in_order c.args.from x c.in_ok-gap.gap) own ∙ ap (λ y. in_order c.args.from (written_each (patterns_of c.args.fragment.now.terms)) y) gap
    ∙ in_order_map c.args.from (patterns_of c.args.fragment.now.terms) (gap_patterns c.args.fragment.now.least c.args.fragment.now.most) in
    passed_on (λ reason. IsReasonOfReadFragment c.args.from reason c.args.fragment.now) (AreTooMuch c.as_slice.result.now) c.from_residual-in_err-texts.result _ c.from_residual-in_err-texts.ensures.1
    (λ reason h. inr (rw (c.as_slice.ensures.value, all) at h)) c.in_err-texts.ensures.err

pub returns-clause-ok : goal.returns-clause-ok
returns-clause-ok c =
    let own = c.in_ok-own.ensures.ok ∙ ap (λ ts. written_each (patterns_of ts)) c.terms.ensures in
    let gap = c.in_ok-gap.ensures ∙ ap (λ n. written_each (gap_patterns n c.most.result)) c.least.ensures ∙ ap (λ n. written_each (gap_patterns c.args.fragment.now.least n)) c.most.ensures in
    let all = c.in_ok-levels.ensures ∙ ap (λ x. in_order c.args.from x c.in_ok-gap.gap) own ∙ ap (λ y. in_order c.args.from (written_each (patterns_of c.args.fragment.now.terms)) y) gap
    ∙ in_order_map c.args.from (patterns_of c.args.fragment.now.terms) (gap_patterns c.args.fragment.now.least c.args.fragment.now.most) in
    c.in_ok-texts.ensures.ok ∙ ap texts.joined_all (c.as_slice.ensures.value ∙ all) ∙ levels_written (side_levels c.args.from c.args.fragment.now)
