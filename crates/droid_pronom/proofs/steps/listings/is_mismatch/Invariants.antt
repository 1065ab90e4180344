use Rattle.std.proofs.Common.{◌≡◌, ◌↔◌, ◌⊎◌, ◌<◌, true, length, drop}
use Rattle.std.specs.List.{AllByRecursion}
use Rattle.droid_pronom.specs.Registry.{AnyOf}
use Rattle.droid_pronom.specs.FoundWindows.{Stands}
use Rattle.droid_pronom.proofs.steps.listings.is_mismatch.Given as goal

-- no row so far lists the extension, and the flag says whether one is of a format that is left
abbrev pub invariant-loop-row : goal.invariant-loop-row
invariant-loop-row l =
    AllByRecursion (λ row. row.place < length l.left) (drop l.row-index l.extensions)
    × (AnyOf (λ row. Stands l.left row.place) l.extensions ↔ ((l.lists_one ≡ true) ⊎ AnyOf (λ row. Stands l.left row.place) (drop l.row-index l.extensions)))
    × (AnyOf (λ row. Stands l.left row.place × (row.extension ≡ l.wanted)) l.extensions ↔ AnyOf (λ row. Stands l.left row.place × (row.extension ≡ l.wanted)) (drop l.row-index l.extensions))
