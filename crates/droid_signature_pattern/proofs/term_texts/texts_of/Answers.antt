-- One more term, one that a registry cannot hold, and all of them.
use Rattle.std.proofs.Common.{◌⊎◌, map, inl, refl, ap, ◌∙◌, arith}
use Rattle.std.proofs.lemmas.List.{take_all, length-map}
use Rattle.droid_signature_pattern.specs.TermValues.{term_of}
use Rattle.droid_signature_pattern.specs.Texts.{joined, joined_all}
use Rattle.droid_signature_pattern.specs.Outcomes.{IsTooMuch, IsReasonOfTerm, IsReasonOfTerms}
use Rattle.droid_signature_pattern.proofs.Exits.{any_map, passed_on}
use Rattle.droid_signature_pattern.proofs.TermLevels.{exceed, levels_more, term_level, terms_exceed, terms_levels}
use Rattle.droid_signature_pattern.proofs.term_texts.texts_of.Goals as goal

pub loop-term-preserved : goal.loop-term-preserved
loop-term-preserved c =
    levels_more term_level term_of c.args.terms.now c.loop-term.term-index c.term-item.result c.loop-term.growing _ c.in_ok-level.level (omega arith) c.term-item.is c.loop-term.invariant c.in_ok-level.ensures.ok c.in_ok-push.ensures.ok

pub returns-in_err-level-clause-err : goal.returns-in_err-level-clause-err
returns-in_err-level-clause-err c = passed_on (IsReasonOfTerms (map term_of c.args.terms.now)) (λ reason. IsReasonOfTerm reason (term_of c.term-item.result)) c.from_residual-in_err-level.result _ c.from_residual-in_err-level.ensures.1
    (λ reason h. inl (any_map (IsReasonOfTerm reason) term_of c.args.terms.now c.loop-term.term-index c.term-item.result (omega arith) c.term-item.is h)) c.in_err-level.ensures.err

pub returns-in_err-push-clause-err : goal.returns-in_err-push-clause-err
returns-in_err-push-clause-err c =
    let all = map term_of c.args.terms.now in
    let i = c.loop-term.term-index in
    let grown = levels_more term_level term_of c.args.terms.now i c.term-item.result c.loop-term.growing _ c.in_ok-level.level (omega arith) c.term-item.is c.loop-term.invariant c.in_ok-level.ensures.ok refl in
    passed_on (IsReasonOfTerms (map term_of c.args.terms.now)) (λ reason. IsTooMuch c.loop-term.growing reason ⊎ IsTooMuch (joined c.loop-term.growing c.in_ok-level.level) reason) c.from_residual-in_err-push.result _ c.from_residual-in_err-push.ensures.1
    (λ reason h. terms_exceed all reason (exceed (map term_level all) i c.loop-term.growing _ reason c.loop-term.invariant grown h)) c.in_err-push.ensures.err

pub returns-in_err-texts-clause-err : goal.returns-in_err-texts-clause-err
returns-in_err-texts-clause-err c =
    passed_on (IsReasonOfTerms (map term_of c.args.terms.now)) (IsTooMuch c.loop-term.growing) c.from_residual-in_err-texts.result _ c.from_residual-in_err-texts.ensures.1
    (λ reason h. terms_exceed (map term_of c.args.terms.now) reason (record { count = c.loop-term.term-index; exceeds = rw c.loop-term.invariant at h })) c.in_err-texts.ensures.err

pub returns-clause-ok : goal.returns-clause-ok
returns-clause-ok c =
    let all = map term_level (map term_of c.args.terms.now) in
    let whole = take_all c.loop-term.term-index all (omega (arith, length-map c.args.terms.now term_of, length-map (map term_of c.args.terms.now) term_level)) in
    c.in_ok-texts.ensures.ok ∙ c.loop-term.invariant ∙ ap joined_all whole ∙ terms_levels (map term_of c.args.terms.now)
