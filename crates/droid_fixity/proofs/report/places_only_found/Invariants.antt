use Rattle.std.proofs.Common.{◌≡◌, take}
use Rattle.std.specs.List.{filter_map}
use Rattle.droid_fixity.specs.Holding.{only_found}
use Rattle.droid_fixity.proofs.report.places_only_found.Given as goal

abbrev pub invariant-loop-pair : goal.invariant-loop-pair
invariant-loop-pair l = l.places.items ≡ filter_map only_found (take l.pair-index l.pairs)
