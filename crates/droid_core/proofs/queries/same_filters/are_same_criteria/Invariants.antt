-- The lists are the same where they are from this place on.
use Rattle.droid_core.proofs.SameLists.{SameFrom}
use Rattle.droid_core.proofs.queries.same_filters.are_same_criteria.Given as goal

abbrev pub invariant-loop-place : goal.invariant-loop-place
invariant-loop-place l = SameFrom l.one l.other l.place
