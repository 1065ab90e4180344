use Rattle.std.proofs.Common.{◌≡◌, ◌∙◌, ℕ, List, ◌%◌, ◌++◌, Option, None, Some, length, set, sym, ap, arith, length-set}
use Rattle.std.proofs.lemmas.List.{get_or-set_same, set-get_or, set-set}
use Rattle.droid_assembly.specs.Fronts.{FrontKnows}
use Rattle.droid_assembly.specs.Kept.{IsAlong}
use Rattle.droid_assembly.specs.State.{slot}
use Rattle.droid_assembly.proofs.Along.{along-step}
use Rattle.droid_assembly.proofs.places.arrive.Goals as goal

pub returns-then-not-waits-clause-along : goal.returns-then-not-waits-clause-along
returns-then-not-waits-clause-along c pieces total count begun =
    let none : Option (List ℕ) = None in
    let waiting = c.args.waiting.now in
    let place = c.args.from.now % 16 in
    let filled = set waiting place (Some c.args.bytes) in
    let free : slot waiting c.args.from.now ≡ none = rw c.if-index-from.true at c.requires.free in
    let here : IsAlong c.args.front.now filled c.args.from.now pieces total count = rw c.if-index-from.true at begun in
    let at : slot filled c.args.from.now ≡ Some c.args.bytes = get_or-set_same waiting place (Some c.args.bytes) none (omega (arith, c.requires.places)) in
    let takes : (before : List ℕ) → FrontKnows c.args.front.now before → FrontKnows c.take.new.self (before ++ c.args.bytes) =
    λ before knows. rw (← c.as_slice.ensures.value) (c.take.ensures.knows before knows) in
    let emptied : set filled place none ≡ waiting =
    set-set waiting place (Some c.args.bytes) none ∙ ap (λ at. set waiting place at) (sym free) ∙ set-get_or waiting place none in
    let places : length filled ≡ 16 = omega (arith, c.requires.places, length-set waiting place (Some c.args.bytes)) in
    let step = along-step c.args.front.now c.take.new.self filled c.args.from.now pieces total count c.args.bytes places at takes here in
    rw emptied at step
