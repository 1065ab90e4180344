use Rattle.std.proofs.Common.{List, ℕ, Contains, sym, subst}
use Rattle.droid_profile.proofs.PassSteps.{listed_more}
use Rattle.droid_profile.proofs.lanes.reader.places_below.Goals as goal

pub loop-place-preserved : goal.loop-place-preserved
loop-place-preserved c = λ place below.
    subst (λ (l : List ℕ). Contains l place) (sym c.in_ok-push.ensures.items) (listed_more c.loop-place.places.items c.loop-place.place c.loop-place.invariant place below)
