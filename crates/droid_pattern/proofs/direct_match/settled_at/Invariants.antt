-- The cells that are left decide.
use Rattle.std.proofs.Common.{◌↔◌, ◌≤◌, ℕ, drop, length}
use Rattle.std.specs.List.{flat_map}
use Rattle.droid_pattern.specs.Cells.{elements_at}
use Rattle.droid_pattern.specs.Positions.{Path}
use Rattle.droid_pattern.proofs.direct_match.settled_at.Given as goal

abbrev pub invariant-loop-cell : goal.invariant-loop-cell
invariant-loop-cell l =
    (l.place ≤ length l.bytes)
    × (((q : ℕ) × Path (flat_map (elements_at l.pool) l.cells) l.bytes l.at q) ↔ ((q : ℕ) × Path (flat_map (elements_at l.pool) (drop l.cell-index l.cells)) l.bytes l.place q))
