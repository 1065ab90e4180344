-- One more position.
use Rattle.std.proofs.Common.{◌≡◌, ◌+◌, ◌++◌, ℕ, map, ap, ◌∙◌, arith}
use Rattle.droid_signature_pattern.specs.Written.{written_each}
use Rattle.droid_signature_pattern.specs.Parts.{outermost_of, right_levels}
use Rattle.droid_signature_pattern.proofs.Exits.{passed_on}
use Rattle.droid_signature_pattern.specs.Reasons.{IsReasonOfLevel}
use Rattle.droid_signature_pattern.specs.declared.part_texts.Way.TheVariants as way
use Rattle.droid_signature_pattern.proofs.PartLevels.{right_more}
use Rattle.droid_signature_pattern.proofs.part_texts.push_right.Goals as goal

pub returns-in_err-level-clause-err : goal.returns-in_err-level-clause-err
returns-in_err-level-clause-err c = passed_on (λ reason. (position : ℕ) × IsReasonOfLevel way.Right position c.args.fragments.now reason) (IsReasonOfLevel way.Right (c.loop-place.place + 1) c.args.fragments.now) c.from_residual.result _ c.from_residual.ensures.1
    (λ reason h. (c.loop-place.place + 1, h)) c.in_err-level.ensures.err

pub loop-place-preserved : goal.loop-place-preserved
loop-place-preserved c = right_more c.args.fragments.now c.loop-place.place c.args.levels.now.items c.loop-place.levels.items c.push.new.self.items c.in_ok-level.level c.in_ok-level.ensures.ok c.in_ok-push.ensures.items c.loop-place.invariant

pub returns-clause-ok : goal.returns-clause-ok
returns-clause-ok c =
    let last : c.loop-place.place ≡ outermost_of c.args.fragments.now = omega arith in
    c.loop-place.invariant ∙ ap (λ n. c.args.levels.now.items ++ map written_each (right_levels c.args.fragments.now n)) last
