-- The first fragments have positions.
use Rattle.std.proofs.Common.{take}
use Rattle.std.specs.List.{AllByRecursion}
use Rattle.droid_signature_pattern.specs.Positions.{IsPosition}
use Rattle.droid_signature_pattern.proofs.positions.see_positions.Given as goal

abbrev pub invariant-loop-fragment : goal.invariant-loop-fragment
invariant-loop-fragment l = AllByRecursion IsPosition (take l.fragment-index l.fragments)
