-- The places of formats by their PUIDs, with one more.
use Rattle.std.proofs.Common.{◌≡◌, ◌∙◌, ℕ, cond, List, [], ◌∷◌, ◌++◌, length, Option, Some, None, sym, ap}
use Rattle.std.specs.Str.{bytes_eq}
use Rattle.droid_pronom.specs.Registry.{place_of}
use Rattle.droid_pronom.specs.declared.format.Format.{Format}
use Rattle.droid_pronom.proofs.RegistryTables.{places_push}

pub placed_push : (q puid : List ℕ) (n : ℕ) (formats : List Format) (it : Format) (old new : Option ℕ) → new ≡ cond (bytes_eq puid q) (Some n) old → old ≡ place_of q formats
    → it.puid ≡ puid → place_of it.puid formats ≡ None → n ≡ length formats → new ≡ place_of q (formats ++ it ∷ [])
placed_push q puid n formats it old new made was same fresh at =
    made
    ∙ ap (λ p. cond (bytes_eq p q) (Some n) old) (sym same)
    ∙ ap (λ k. cond (bytes_eq it.puid q) (Some k) old) at
    ∙ ap (λ o. cond (bytes_eq it.puid q) (Some (length formats)) o) was
    ∙ places_push q formats it fresh
