-- The copies so far are the first criteria.
use Rattle.std.proofs.Common.{◌≡◌, take}
use Rattle.droid_frame.proofs.criteria.Criteria.try_clone.Given as goal

abbrev pub invariant-loop-criterion : goal.invariant-loop-criterion
invariant-loop-criterion l = l.items.items ≡ take l.criterion-index l.criterion-items
