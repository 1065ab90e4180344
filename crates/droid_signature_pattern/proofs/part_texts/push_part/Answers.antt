-- Left fragments, the sequence, right fragments.
use Rattle.std.proofs.Common.{ℕ, inl, inr, ap, ◌∙◌}
use Rattle.droid_signature_file.specs.Expansions.{patterns_of}
use Rattle.droid_signature_pattern.specs.Outcomes.{IsReasonOfTerms}
use Rattle.droid_signature_pattern.specs.Written.{written_each}
use Rattle.droid_signature_pattern.proofs.Exits.{passed_on}
use Rattle.droid_signature_pattern.specs.Reasons.{IsReasonOfLevel, IsReasonOfReadPart}
use Rattle.droid_signature_pattern.specs.declared.part_texts.Way.TheVariants as way
use Rattle.droid_signature_pattern.proofs.PartLevels.{part_steps}
use Rattle.droid_signature_pattern.proofs.part_texts.push_part.Goals as goal

pub returns-in_err-push_left-clause-err : goal.returns-in_err-push_left-clause-err
returns-in_err-push_left-clause-err c = passed_on (λ reason. IsReasonOfReadPart reason c.args.part.now) (λ reason. (position : ℕ) × IsReasonOfLevel way.Left position c.left.result.now reason) c.from_residual.result _ c.from_residual.ensures.1
    (λ reason h. inl (rw c.left.ensures at h)) c.in_err-push_left.ensures.err

pub returns-in_err-texts-clause-err : goal.returns-in_err-texts-clause-err
returns-in_err-texts-clause-err c = passed_on (λ reason. IsReasonOfReadPart reason c.args.part.now) (λ reason. IsReasonOfTerms c.args.part.now.terms reason) c.from_residual-in_err-texts.result _ c.from_residual-in_err-texts.ensures.1
    (λ reason h. inr (inl h)) (rw c.terms.ensures at c.in_err-texts.ensures.err)

pub returns-in_err-push_right-clause-err : goal.returns-in_err-push_right-clause-err
returns-in_err-push_right-clause-err c = passed_on (λ reason. IsReasonOfReadPart reason c.args.part.now) (λ reason. (position : ℕ) × IsReasonOfLevel way.Right position c.right.result.now reason) c.from_residual-in_err-push_right.result _ c.from_residual-in_err-push_right.ensures.1
    (λ reason h. inr (inr (rw c.right.ensures at h))) c.in_err-push_right.ensures.err

pub returns-clause-ok : goal.returns-clause-ok
returns-clause-ok c = part_steps c.args.part.now c.args.levels.now.items c.push_left.new.levels.items c.push.new.self.items c.push_right.new.levels.items c.in_ok-texts.texts
    (rw c.left.ensures at c.in_ok-push_left.ensures.ok) (c.in_ok-texts.ensures.ok ∙ ap (λ ts. written_each (patterns_of ts)) c.terms.ensures) c.in_ok-push.ensures.items (rw c.right.ensures at c.in_ok-push_right.ensures.ok)
