use Rattle.std.proofs.Common.{ap, ◌∙◌, length, List, ℕ}
use Rattle.droid_client.proofs.PendingPlaces.{length_places}
use Rattle.droid_client.proofs.client.Client.pending.Goals as goal

pub returns : goal.returns
returns c =
    rw (← c.self.view_is)
    (c.len.ensures ∙ (c.self.inside.pending.ok.0
    ∙ (ap (λ (places : List ℕ). length places) c.self.invariant.places ∙ length_places 0 c.self.inside.slots.items)))
