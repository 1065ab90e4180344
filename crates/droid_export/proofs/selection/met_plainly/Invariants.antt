use Rattle.std.proofs.Common.{◌≡◌, map, take}
use Rattle.droid_export.specs.Index.{is_met_plainly}
use Rattle.droid_export.proofs.selection.met_plainly.Given as goal

-- the first criteria were asked
abbrev pub invariant-loop-criterion : goal.invariant-loop-criterion
invariant-loop-criterion l = l.met.items ≡ map (is_met_plainly l.node) (take l.criterion-index l.items)
