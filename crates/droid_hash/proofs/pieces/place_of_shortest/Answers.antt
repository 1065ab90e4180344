use Rattle.std.proofs.Common.{lit<, ◌≡◌, arith}
use Rattle.droid_hash.specs.Pieces.{Beats}
use Rattle.droid_hash.proofs.Places.{beats_itself, below_one, one_more}
use Rattle.droid_hash.proofs.pieces.place_of_shortest.Goals as goal

pub places-init : goal.places-init
places-init c = (lit< tt, below_one (Beats c.args.lens.now 0) (beats_itself c.args.lens.now 0))

pub places-preserved : goal.places-preserved
places-preserved c = (
  c.better-best.ensures.inside,
  one_more c.args.lens.now c.better-best.result c.places.best c.places.place c.better-best.ensures.first c.better-best.ensures.second c.places.invariant.1,
)

pub returns-clause-shortest : goal.returns-clause-shortest
returns-clause-shortest c = λ j low. c.places.invariant.1 j (omega (arith, c.places.auto.place-end (omega arith)))
