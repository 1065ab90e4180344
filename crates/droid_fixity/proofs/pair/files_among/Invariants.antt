use Rattle.std.proofs.Common.{◌≡◌, take}
use Rattle.std.specs.List.{filter_map}
use Rattle.droid_fixity.specs.Holding.{file_pair}
use Rattle.droid_fixity.proofs.pair.files_among.Given as goal

abbrev pub invariant-loop-pair : goal.invariant-loop-pair
invariant-loop-pair l = l.files.items ≡ filter_map (file_pair l.listed l.found) (take l.pair-index l.pairs)
