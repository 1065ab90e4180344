use Rattle.std.proofs.Common.{◌-◌, ◌∙◌, length, drop, sym, arith}
use Rattle.std.proofs.lemmas.List.{length-take, length-drop}
use Rattle.droid_identity.proofs.UnitLemmas.{two_and_rest, unit_more}
use Rattle.droid_identity.proofs.units.is_units.Goals as goal

pub loop-left-preserved : goal.loop-left-preserved
loop-left-preserved c =
    let left = c.loop-left.left.now in
    let may = sym (rw c.unit-next.ensures at c.may_follow.ensures) ∙ c.if-not-may_follow.false in
    record {
      shrinks = omega (arith, length-take (length left - 2) (drop 2 left), length-drop 2 left, c.loop-left.invariant.shrinks);
      same = rw (c.is_high-high.ensures, c.unit-next.ensures) (
          unit_more c.args.order c.args.cut c.loop-left.high _ left _ _ _ (two_and_rest left (omega arith)) c.loop-left.invariant.same may);
    }
