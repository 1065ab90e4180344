use Rattle.std.proofs.Common.{take}
use Rattle.droid_export.specs.Index.{IsIndex}
use Rattle.droid_export.proofs.index.Index.build.Given as goal

-- the lists of the first criteria are in it
abbrev pub invariant-loop-place : goal.invariant-loop-place
invariant-loop-place l = IsIndex (take l.place l.criteria) l.index
