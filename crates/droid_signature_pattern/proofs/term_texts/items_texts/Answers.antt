-- One more item, one that a registry cannot hold, and all of them.
use Rattle.std.proofs.Common.{◌⊎◌, map, inl, refl, ap, ◌∙◌, arith}
use Rattle.std.proofs.lemmas.List.{take_all, length-map}
use Rattle.droid_signature_pattern.specs.TermValues.{atom_of}
use Rattle.droid_signature_pattern.specs.Texts.{joined, joined_all}
use Rattle.droid_signature_pattern.specs.Outcomes.{IsTooMuch, IsReasonOfAtom, IsReasonOfAtoms}
use Rattle.droid_signature_pattern.proofs.Exits.{any_map, passed_on}
use Rattle.droid_signature_pattern.proofs.TermLevels.{exceed, levels_more, atom_level, atoms_exceed, atoms_levels, one_level}
use Rattle.droid_signature_pattern.proofs.term_texts.items_texts.Goals as goal

pub loop-item-preserved : goal.loop-item-preserved
loop-item-preserved c =
    levels_more atom_level atom_of c.args.items.now c.loop-item.item-index c.item-item.result c.loop-item.growing _ c.in_ok-level.level (omega arith) c.item-item.is c.loop-item.invariant c.in_ok-level.ensures.ok c.in_ok-push.ensures.ok

pub returns-in_err-level-clause-err : goal.returns-in_err-level-clause-err
returns-in_err-level-clause-err c = passed_on (λ reason. IsReasonOfAtoms reason (map atom_of c.args.items.now)) (λ reason. IsReasonOfAtom reason (atom_of c.item-item.result)) c.from_residual-in_err-level.result _ c.from_residual-in_err-level.ensures.1
    (λ reason h. inl (any_map (IsReasonOfAtom reason) atom_of c.args.items.now c.loop-item.item-index c.item-item.result (omega arith) c.item-item.is h)) c.in_err-level.ensures.err

pub returns-in_err-push-clause-err : goal.returns-in_err-push-clause-err
returns-in_err-push-clause-err c =
    let all = map atom_of c.args.items.now in
    let i = c.loop-item.item-index in
    let grown = levels_more atom_level atom_of c.args.items.now i c.item-item.result c.loop-item.growing _ c.in_ok-level.level (omega arith) c.item-item.is c.loop-item.invariant c.in_ok-level.ensures.ok refl in
    passed_on (λ reason. IsReasonOfAtoms reason (map atom_of c.args.items.now)) (λ reason. IsTooMuch c.loop-item.growing reason ⊎ IsTooMuch (joined c.loop-item.growing c.in_ok-level.level) reason) c.from_residual-in_err-push.result _ c.from_residual-in_err-push.ensures.1
    (λ reason h. atoms_exceed all reason (exceed (map atom_level all) i c.loop-item.growing _ reason c.loop-item.invariant grown h)) c.in_err-push.ensures.err

pub returns-in_err-texts-clause-err : goal.returns-in_err-texts-clause-err
returns-in_err-texts-clause-err c =
    passed_on (λ reason. IsReasonOfAtoms reason (map atom_of c.args.items.now)) (IsTooMuch c.loop-item.growing) c.from_residual-in_err-texts.result _ c.from_residual-in_err-texts.ensures.1
    (λ reason h. atoms_exceed (map atom_of c.args.items.now) reason (record { count = c.loop-item.item-index; exceeds = rw c.loop-item.invariant at h })) c.in_err-texts.ensures.err

pub returns-clause-ok : goal.returns-clause-ok
returns-clause-ok c =
    let all = map atom_level (map atom_of c.args.items.now) in
    let whole = take_all c.loop-item.item-index all (omega (arith, length-map c.args.items.now atom_of, length-map (map atom_of c.args.items.now) atom_level)) in
    c.in_ok-texts.ensures.ok ∙ c.loop-item.invariant ∙ ap joined_all whole ∙ atoms_levels (map atom_of c.args.items.now)

pub returns-in_err-own-clause-err : goal.returns-in_err-own-clause-err
returns-in_err-own-clause-err c = passed_on (λ reason. IsReasonOfAtoms reason (map atom_of c.args.items.now)) (λ reason. IsReasonOfAtom reason (atom_of c.index-items-0.result)) c.from_residual.result _ c.from_residual.ensures.1
    (λ reason h. inl (any_map (IsReasonOfAtom reason) atom_of c.args.items.now 0 c.index-items-0.result (omega arith) c.index-items-0.is h)) c.in_err-own.ensures.err

pub returns-then-is_one_class-clause-ok : goal.returns-then-is_one_class-clause-ok
returns-then-is_one_class-clause-ok c = c.in_ok-own.ensures.ok ∙ one_level c.args.items.now c.index-items-0.result (c.is_one_class.ensures c.if-is_one_class.true) c.index-items-0.is
