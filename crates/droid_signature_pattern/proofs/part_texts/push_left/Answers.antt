-- One more position, one that cannot be written, and all of them.
use Rattle.std.proofs.Common.{◌+◌, ◌-◌, ◌++◌, ℕ, map, arith, ap, ◌∙◌}
use Rattle.droid_signature_pattern.specs.Written.{written_each}
use Rattle.droid_signature_pattern.proofs.Exits.{passed_on}
use Rattle.droid_signature_pattern.specs.Parts.{left_levels}
use Rattle.droid_signature_pattern.specs.Reasons.{IsReasonOfLevel}
use Rattle.droid_signature_pattern.specs.declared.part_texts.Way.TheVariants as way
use Rattle.droid_signature_pattern.proofs.PartLevels.{left_end, left_more}
use Rattle.droid_signature_pattern.proofs.part_texts.push_left.Goals as goal

pub returns-in_err-level-clause-err : goal.returns-in_err-level-clause-err
returns-in_err-level-clause-err c = passed_on (λ reason. (position : ℕ) × IsReasonOfLevel way.Left position c.args.fragments.now reason) (IsReasonOfLevel way.Left (c.outermost-outer.result - c.loop-place.place) c.args.fragments.now) c.from_residual.result _ c.from_residual.ensures.1
    (λ reason h. (c.outermost-outer.result - c.loop-place.place, h)) c.in_err-level.ensures.err

pub loop-place-preserved : goal.loop-place-preserved
loop-place-preserved c = left_more c.args.fragments.now (c.outermost-outer.result - c.loop-place.place) (c.outermost-outer.result - (c.loop-place.place + 1)) c.loop-place.levels.items c.push.new.self.items _ c.in_ok-level.level
    (omega arith) c.in_ok-level.ensures.ok c.in_ok-push.ensures.items c.loop-place.invariant

pub returns-clause-ok : goal.returns-clause-ok
returns-clause-ok c =
    left_end c.args.fragments.now (c.outermost-outer.result - c.loop-place.place) c.loop-place.levels.items _ (omega arith) c.loop-place.invariant
    ∙ ap (λ n. c.args.levels.now.items ++ map written_each (left_levels c.args.fragments.now n)) c.outermost-outer.ensures
