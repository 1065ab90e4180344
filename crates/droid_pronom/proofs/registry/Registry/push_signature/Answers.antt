use Rattle.std.proofs.Common.{ℕ, true, refl, ap, set}
use Rattle.droid_pronom.proofs.RegistryTables.{kept_signature}
use Rattle.droid_pronom.proofs.registry.Registry.push_signature.Goals as goal

pub invariant_of-self-2 : goal.invariant_of-self-2
invariant_of-self-2 c =
    kept_signature c.self.inside _ c.args.signature c.self.invariant
    (rw (← c.self.view_is) at c.requires)
    refl (ap (λ (p : ℕ). set c.self.inside.signed.items p true) c.place-place.ensures)
    refl refl c.in_ok-push.ensures.items
    (λ q. refl)
