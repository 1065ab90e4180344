use Rattle.std.proofs.Common.{◌≡◌, drop}
use Rattle.std.specs.List.{list_any}
use Rattle.droid_export.specs.Filters.{is_met}
use Rattle.droid_export.proofs.filter.meets_any.Given as goal

-- what is left says the same as the whole
abbrev pub invariant-loop-place : goal.invariant-loop-place
invariant-loop-place l = list_any (is_met l.node) (drop l.place l.criteria) ≡ list_any (is_met l.node) l.criteria
