use Rattle.std.proofs.Common.{◌++◌, ◌<◌, ℕ, List, drop, length}
use Rattle.std.specs.List.{AllByRecursion}
use Rattle.droid_pronom.specs.FoundWindows.{Stands}
use Rattle.droid_identity.specs.Beaters.{Beaters}
use Rattle.droid_identity.proofs.rivals.beaters.Given as goal

-- the places so far and those of what is left are those of all
abbrev pub invariant-loop-row : goal.invariant-loop-row
invariant-loop-row l =
    AllByRecursion (λ row. row.place < length l.hit) (drop l.row-index l.priorities)
    × ((left : List ℕ) → Beaters (Stands l.hit) l.place (drop l.row-index l.priorities) left → Beaters (Stands l.hit) l.place l.priorities (l.places.items ++ left))
