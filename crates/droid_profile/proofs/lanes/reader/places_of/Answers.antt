use Rattle.std.proofs.lemmas.List.Sorted.{Contains-permutation}
use Rattle.droid_profile.proofs.lanes.reader.places_of.Goals as goal

pub returns : goal.returns
returns c = λ place within. Contains-permutation c.in_ok-places.places.items c.sort_by_key.new.self.items place c.sort_by_key.ensures.permutation (c.in_ok-places.ensures place within)
