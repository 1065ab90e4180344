use Rattle.std.proofs.Common.{◌≡◌, take}
use Rattle.std.specs.List.{filter_map}
use Rattle.droid_fixity.specs.Holding.{difference_at, held}
use Rattle.droid_fixity.proofs.report.differences_at.Given as goal

abbrev pub invariant-loop-pair : goal.invariant-loop-pair
invariant-loop-pair l = l.report.items ≡ filter_map (difference_at l.listed l.found (held l.missing) (held l.new)) (take l.pair-index l.pairs)
