-- One more list of texts, and too many or too long ones.
use Rattle.std.proofs.Common.{◌⊎◌, ◌+◌, take, ⊎_elim, sym, ap, ◌∙◌, arith}
use Rattle.droid_signature_pattern.specs.Outcomes.{AreTooMuch, IsTooMuch}
use Rattle.droid_signature_pattern.specs.Texts.{joined, joined_all}
use Rattle.droid_signature_pattern.proofs.Exits.{passed_on}
use Rattle.droid_signature_pattern.proofs.Joined.{joined_all_more}
use Rattle.droid_signature_pattern.proofs.growth.expanded.Goals as goal

pub returns-in_err-push-clause-err : goal.returns-in_err-push-clause-err
returns-in_err-push-clause-err c =
    let levels = c.args.levels.now in
    let i = c.loop-level.level-index in
    let x = c.level-item.result in
    let more = ap (λ g. joined g x) c.loop-level.invariant ∙ ap (joined (joined_all (take i levels))) c.level-item.is ∙ sym (joined_all_more levels i x (omega arith)) in
    passed_on (AreTooMuch levels) (λ reason. IsTooMuch c.loop-level.growing reason ⊎ IsTooMuch (joined c.loop-level.growing x) reason) c.from_residual-in_err-push.result _ c.from_residual-in_err-push.ensures.1
    (λ reason h. ⊎_elim (λ a. record { count = i; exceeds = rw c.loop-level.invariant at a }) (λ b. record { count = i + 1; exceeds = rw more at b }) h) c.in_err-push.ensures.err

pub loop-level-preserved : goal.loop-level-preserved
loop-level-preserved c =
    let levels = c.args.levels.now in
    let i = c.loop-level.level-index in
    let x = c.level-item.result in
    c.in_ok-push.ensures.ok ∙ ap (λ g. joined g x) c.loop-level.invariant ∙ ap (joined (joined_all (take i levels))) c.level-item.is ∙ sym (joined_all_more levels i x (omega arith))
