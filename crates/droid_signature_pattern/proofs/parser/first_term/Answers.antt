-- Alternatives in parentheses.
use Rattle.std.proofs.Common.{◌∷◌, ℕ, ap, ◌∙◌}
use Rattle.droid_signature_pattern.proofs.FaultLemmas.{passed_on}
use Rattle.droid_signature_pattern.proofs.TermFronts.{choice_front, no_choice_front}
use Rattle.droid_signature_pattern.proofs.parser.first_term.Goals as goal

pub returns-in_err-alternatives-clause-bad : goal.returns-in_err-alternatives-clause-bad
returns-in_err-alternatives-clause-bad c = λ was.
    let whole = (rw c.in_ok-first.ensures.ok_part at c.split_first.ensures.cases).0 in
    no_choice_front c.args.text.now c.in_ok-first.after.now (whole ∙ ap (λ (x : ℕ). x ∷ c.in_ok-first.after.now) c.if-first-eq40.true)
    (c.in_err-alternatives.ensures.bad (passed_on c.from_residual-in_err-alternatives.result _ c.from_residual-in_err-alternatives.ensures.1 was))

pub returns-then-first-eq40-clause-front : goal.returns-then-first-eq40-clause-front
returns-then-first-eq40-clause-front c =
    let whole = (rw c.in_ok-first.ensures.ok_part at c.split_first.ensures.cases).0 in
    choice_front c.args.text.now c.in_ok-first.after.now c.in_ok-alternatives.rest.now _ (whole ∙ ap (λ (x : ℕ). x ∷ c.in_ok-first.after.now) c.if-first-eq40.true)
    c.in_ok-alternatives.ensures.spelled c.in_ok-alternatives.ensures.only
