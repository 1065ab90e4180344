-- The places after the alternatives so far are in, and what is left has the others.
use Rattle.std.proofs.Common.{◌≡◌, ◌-◌, ◌++◌, ℕ, List}
use Rattle.droid_pattern.specs.Patterns.{Choice}
use Rattle.droid_pattern.specs.Cells.{front_number, runs_in, alternatives_in}
use Rattle.droid_pattern.specs.Positions.{AreSetsOf, IsInside, IsAt, Reaches}
use Rattle.droid_pattern.proofs.step.choice.Given as goal

abbrev pub invariant-loop : goal.invariant-loop
invariant-loop l = record {
  sets : AreSetsOf l.direction l.bytes l.sets.items;
  inside : IsInside l.bytes l.found;
  so_far : (done : List (List ℕ))
      × (done ++ runs_in (front_number l.packed - l.counter) l.rest ≡ alternatives_in l.packed)
      × Reaches l.direction (Choice done) l.bytes (IsAt l.direction l.bytes l.fn.bits) (IsAt l.direction l.bytes l.found);
}
