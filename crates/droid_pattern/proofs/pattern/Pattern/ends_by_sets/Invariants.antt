-- A match is there exactly where one of what is left ends at one of the positions.
use Rattle.std.proofs.Common.{◌↔◌, ◌≤◌, ℕ, length}
use Rattle.std.specs.List.{flat_map}
use Rattle.droid_pattern.specs.Patterns.{EndsWithin}
use Rattle.droid_pattern.specs.Cells.{elements_at}
use Rattle.droid_pattern.specs.Positions.{IsAt, IsInside, Path}
use Rattle.droid_pattern.specs.ClassCaches.{AreOf}
use Rattle.droid_pattern.specs.declared.direction.Direction.TheVariants as direction
use Rattle.droid_pattern.proofs.pattern.Pattern.ends_by_sets.Given as goal

abbrev pub invariant-loop-rest : goal.invariant-loop-rest
invariant-loop-rest l = record {
  shrinks : length l.rest ≤ length l.initial.rest;
  inside : IsInside l.bytes l.classes.places;
  sets : AreOf l.bytes l.classes;
  so_far : EndsWithin l.fn.self l.bytes l.fn.low l.fn.high
      ↔ ((q : ℕ) × IsAt direction.Start l.bytes l.classes.places q × ((p : ℕ) × (p ≤ length l.bytes) × Path (flat_map (elements_at l.pool) l.rest) l.bytes p q));
}

abbrev pub decreases-loop-rest : goal.decreases-loop-rest
decreases-loop-rest l = length l.rest
