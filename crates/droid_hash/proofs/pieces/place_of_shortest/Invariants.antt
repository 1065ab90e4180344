use Rattle.std.proofs.Common.{ℕ, ◌<◌}
use Rattle.droid_hash.specs.Pieces.{Beats}
use Rattle.droid_hash.proofs.pieces.place_of_shortest.Given as goal

abbrev pub invariant-places : goal.invariant-places
invariant-places l = (l.best < 8) × ((k : ℕ) → k < l.place → Beats l.lens l.best k)
