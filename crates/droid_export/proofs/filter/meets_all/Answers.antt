use Rattle.std.proofs.Common.{◌∙◌, sym, arith}
use Rattle.droid_export.specs.Filters.{is_met}
use Rattle.droid_export.proofs.ListPlaces.{all_missed, all_next, all_end, some_is_there}
use Rattle.droid_export.proofs.filter.meets_all.Goals as goal
use Rattle.droid_export.proofs.filter.meets_all.Goals.{in-Some+else-not-is_met, in_default}

pub returns-then-not-is_met : goal.returns-then-not-is_met
returns-then-not-is_met c =
    all_missed (is_met c.args.node.now) c.args.criteria.now c.loop-place.place c.in-Some.criterion.now (sym c.in-Some.ensures)
    (sym c.is_met.ensures ∙ c.if-not-is_met.true)

pub loop-place-preserved : goal.loop-place-preserved
loop-place-preserved c = elim c.match-get.branch [
  | in-Some+else-not-is_met w ↦
      all_next (is_met c.args.node.now) c.args.criteria.now c.loop-place.place w.in-Some.criterion.now (sym w.in-Some.ensures)
      (sym w.is_met.ensures ∙ w.if-not-is_met.false) c.loop-place.invariant
  | in_default w ↦ some_is_there c.args.criteria.now c.loop-place.place (sym w.in_default.ensures) (omega arith)
]

pub returns : goal.returns
returns c = all_end (is_met c.args.node.now) c.args.criteria.now c.loop-place.place (omega arith) c.loop-place.invariant
