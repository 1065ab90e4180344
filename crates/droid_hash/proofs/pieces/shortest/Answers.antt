use Rattle.std.proofs.Common.{arith, sym}
use Rattle.droid_hash.proofs.pieces.shortest.Goals as goal

pub returns-clause-some : goal.returns-clause-some
returns-clause-some c = λ j low more.
    (c.place_of_shortest-place.ensures.shortest j low (omega (arith, c.lens-lens.ensures.value j low, more))).0

pub returns-clause-least : goal.returns-clause-least
returns-clause-least c = λ j low more.
    omega (arith, c.lens-lens.ensures.value j low, (c.place_of_shortest-place.ensures.shortest j low (omega (arith, c.lens-lens.ensures.value j low, more))).1)

pub returns-clause-exact : goal.returns-clause-exact
returns-clause-exact c =
    let place = c.place_of_shortest-place in
    (place.result, (place.ensures.inside, sym (c.lens-lens.ensures.value place.result place.ensures.inside)))
