use Rattle.std.proofs.Common.{◌≡◌, ◌∙◌}
use Rattle.droid_pronom.specs.Registry.{place_of}
use Rattle.droid_pronom.proofs.RegistryTables.{place_within, place_there}
use Rattle.droid_pronom.proofs.registry.Registry.by_puid.Goals as goal

pub returns-clause-found : goal.returns-clause-found
returns-clause-found c =
    let place : c.copied.result ≡ place_of c.args.puid.now c.self.inside.formats.items = c.copied.ensures ∙ c.get.ensures.value ∙ c.self.invariant.places c.args.puid.now in
    rw (place, ← c.self.view_is) (place_there c.args.puid.now c.self.inside.formats.items)

pub returns-clause-below : goal.returns-clause-below
returns-clause-below c =
    let place : c.copied.result ≡ place_of c.args.puid.now c.self.inside.formats.items = c.copied.ensures ∙ c.get.ensures.value ∙ c.self.invariant.places c.args.puid.now in
    rw (place, ← c.self.view_is) (place_within c.args.puid.now c.self.inside.formats.items)
