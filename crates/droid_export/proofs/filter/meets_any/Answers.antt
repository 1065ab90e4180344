use Rattle.std.proofs.Common.{◌∙◌, sym, arith}
use Rattle.droid_export.specs.Filters.{is_met}
use Rattle.droid_export.proofs.ListPlaces.{any_found, any_next, any_end, some_is_there}
use Rattle.droid_export.proofs.filter.meets_any.Goals as goal
use Rattle.droid_export.proofs.filter.meets_any.Goals.{in-Some+else-is_met, in_default}

pub returns-then-is_met : goal.returns-then-is_met
returns-then-is_met c =
    any_found (is_met c.args.node.now) c.args.criteria.now c.loop-place.place c.in-Some.criterion.now (sym c.in-Some.ensures)
    (sym c.is_met.ensures ∙ c.if-is_met.true)

pub loop-place-preserved : goal.loop-place-preserved
loop-place-preserved c = elim c.match-get.branch [
  | in-Some+else-is_met w ↦
      any_next (is_met c.args.node.now) c.args.criteria.now c.loop-place.place w.in-Some.criterion.now (sym w.in-Some.ensures)
      (sym w.is_met.ensures ∙ w.if-is_met.false) c.loop-place.invariant
  | in_default w ↦ some_is_there c.args.criteria.now c.loop-place.place (sym w.in_default.ensures) (omega arith)
]

pub returns : goal.returns
returns c = any_end (is_met c.args.node.now) c.args.criteria.now c.loop-place.place (omega arith) c.loop-place.invariant
