-- The first criteria are short enough, and the sum is the length of their spelling.
use Rattle.std.proofs.Common.{◌≡◌, ◌+◌, ◌*◌, ◌≤◌, take, length}
use Rattle.std.specs.List.{AllByRecursion, flat_map}
use Rattle.droid_frame.specs.Filters.{CriterionFits, criterion_bytes}
use Rattle.droid_frame.proofs.lengths.filter_len.Given as goal

abbrev pub invariant-loop-criterion : goal.invariant-loop-criterion
invariant-loop-criterion l = record {
  counted : l.len ≡ 2 + length (flat_map criterion_bytes (take l.criterion-index l.criteria));
  small : l.len ≤ 2 + 65536 * l.criterion-index;
  short : AllByRecursion CriterionFits (take l.criterion-index l.criteria);
}
