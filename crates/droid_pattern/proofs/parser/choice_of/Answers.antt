-- One more alternative, and where none is.
use Rattle.std.proofs.Common.{◌∷◌, [], map, ap, ◌∙◌}
use Rattle.std.proofs.lemmas.List.{map-append}
use Rattle.droid_pattern.proofs.FaultLemmas.{passed_on}
use Rattle.droid_pattern.proofs.TextLemmas.{choice_next, choice_bad, choice_last_bad}
use Rattle.droid_pattern.proofs.parser.choice_of.Goals as goal

pub returns-in_err-alternative-clause-bad : goal.returns-in_err-alternative-clause-bad
returns-in_err-alternative-clause-bad c = λ h.
    choice_bad c.args.body.now (map (λ v. v.items) c.loop-first.alternatives.items) c.loop-first.rest.now c.in-Some.first.now c.in-Some.after.now c.in-Some.ensures.0 c.in-Some.ensures.1
    (c.in_err-alternative.ensures.bad (passed_on c.from_residual.result _ c.from_residual.ensures.1 h)) c.loop-first.invariant

pub loop-first-preserved : goal.loop-first-preserved
loop-first-preserved c =
    let done = map (λ v. v.items) c.loop-first.alternatives.items in
    let grown = ap (map (λ v. v.items)) c.in_ok-push.ensures.items ∙ map-append (λ v. v.items) c.loop-first.alternatives.items (c.in_ok-alternative.alternative ∷ []) in
    choice_next c.args.body.now done _ c.loop-first.rest.now c.in-Some.first.now c.in-Some.after.now c.in_ok-alternative.alternative.items c.in-Some.ensures.0 c.in-Some.ensures.1 c.in_ok-alternative.ensures.spelled grown c.loop-first.invariant

pub returns-in_err-alternative-2-clause-bad : goal.returns-in_err-alternative-2-clause-bad
returns-in_err-alternative-2-clause-bad c = λ h.
    choice_last_bad c.args.body.now (map (λ v. v.items) c.loop-first.alternatives.items) c.loop-first.rest.now c.in_default.ensures
    (c.in_err-alternative-2.ensures.bad (passed_on c.from_residual-in_err-alternative-2.result _ c.from_residual-in_err-alternative-2.ensures.1 h)) c.loop-first.invariant
