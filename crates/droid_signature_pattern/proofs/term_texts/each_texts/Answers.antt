-- One more alternative, and what a registry cannot hold.
use Rattle.std.proofs.Common.{◌+◌, ◌++◌, map, inl, inr, ap, ◌∙◌, arith}
use Rattle.std.proofs.lemmas.List.{take_all, length-map}
use Rattle.droid_signature_file.specs.Expansions.{patterns_of_atoms, patterns_of_each}
use Rattle.droid_signature_pattern.specs.TermValues.{atom_of}
use Rattle.droid_signature_pattern.specs.Items.{items_of}
use Rattle.droid_signature_pattern.specs.Outcomes.{IsReasonOfAtoms, IsReasonOfEach, IsTooMuch}
use Rattle.droid_signature_pattern.specs.Written.{written_each}
use Rattle.droid_signature_pattern.proofs.Exits.{any_map, passed_on}
use Rattle.droid_signature_pattern.proofs.TermLevels.{each_more}
use Rattle.droid_signature_pattern.proofs.term_texts.each_texts.Goals as goal

pub loop-items-preserved : goal.loop-items-preserved
loop-items-preserved c = c.in_ok-add_all.ensures.ok ∙ each_more items_of c.args.alternatives.now c.loop-items.items-index c.items-item.result c.loop-items.texts c.in_ok-alternative.alternative (omega arith) c.items-item.is c.loop-items.invariant (c.in_ok-alternative.ensures.ok ∙ ap (λ l. written_each (patterns_of_atoms (map atom_of l))) c.as_slice.ensures.value)

pub returns-in_err-alternative-clause-err : goal.returns-in_err-alternative-clause-err
returns-in_err-alternative-clause-err c = passed_on (λ reason. IsReasonOfEach reason (map items_of c.args.alternatives.now)) (λ reason. IsReasonOfAtoms reason (map atom_of c.as_slice.result.now)) c.from_residual.result _ c.from_residual.ensures.1
    (λ reason h. inl (any_map (IsReasonOfAtoms reason) items_of c.args.alternatives.now c.loop-items.items-index c.items-item.result (omega arith) c.items-item.is (rw c.as_slice.ensures.value at h))) c.in_err-alternative.ensures.err

pub returns-in_err-add_all-clause-err : goal.returns-in_err-add_all-clause-err
returns-in_err-add_all-clause-err c =
    let grown = each_more items_of c.args.alternatives.now c.loop-items.items-index c.items-item.result c.loop-items.texts c.in_ok-alternative.alternative (omega arith) c.items-item.is c.loop-items.invariant (c.in_ok-alternative.ensures.ok ∙ ap (λ l. written_each (patterns_of_atoms (map atom_of l))) c.as_slice.ensures.value) in
    passed_on (λ reason. IsReasonOfEach reason (map items_of c.args.alternatives.now)) (IsTooMuch (c.loop-items.texts ++ c.in_ok-alternative.alternative)) c.from_residual-in_err-add_all.result _ c.from_residual-in_err-add_all.ensures.1
    (λ reason h. inr (c.loop-items.items-index + 1, rw grown at h)) c.in_err-add_all.ensures.err

pub returns-clause-ok : goal.returns-clause-ok
returns-clause-ok c =
    let all = take_all c.loop-items.items-index (map items_of c.args.alternatives.now) (omega (arith, length-map c.args.alternatives.now items_of)) in
    c.loop-items.invariant ∙ ap (λ l. written_each (patterns_of_each l)) all
