-- A match is there exactly where one of what is left begins at one of the positions.
use Rattle.std.proofs.Common.{◌↔◌, ℕ, drop}
use Rattle.std.specs.List.{flat_map}
use Rattle.droid_pattern.specs.Patterns.{BeginsWithin}
use Rattle.droid_pattern.specs.Cells.{elements_at}
use Rattle.droid_pattern.specs.Positions.{IsAt, IsInside, Path}
use Rattle.droid_pattern.specs.ClassCaches.{AreOf}
use Rattle.droid_pattern.specs.declared.direction.Direction.TheVariants as direction
use Rattle.droid_pattern.proofs.pattern.Pattern.begins_by_sets.Given as goal

abbrev pub invariant-loop-cell : goal.invariant-loop-cell
invariant-loop-cell l = record {
  inside : IsInside l.bytes l.classes.places;
  sets : AreOf l.bytes l.classes;
  so_far : BeginsWithin l.fn.self l.bytes l.fn.low l.fn.high
      ↔ ((p : ℕ) × IsAt direction.End l.bytes l.classes.places p × ((q : ℕ) × Path (flat_map (elements_at l.pool) (drop l.cell-index l.cell-items)) l.bytes p q));
}
