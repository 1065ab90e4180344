-- The first criteria were added, and each has a spelling.
use Rattle.std.proofs.Common.{◌≡◌, ◌++◌, take}
use Rattle.std.specs.List.{AllByRecursion, flat_map}
use Rattle.droid_frame.specs.Filters.{IsCriterion, criterion_bytes}
use Rattle.droid_frame.proofs.writing.requests.filter_writer.append_filter.Given as goal

abbrev pub invariant-loop-criterion : goal.invariant-loop-criterion
invariant-loop-criterion l = record {
  added : l.out.items ≡ l.initial.out.items ++ flat_map criterion_bytes (take l.criterion-index l.criteria);
  spelled : AllByRecursion IsCriterion (take l.criterion-index l.criteria);
}
