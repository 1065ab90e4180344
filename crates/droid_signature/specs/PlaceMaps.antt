-- For inner clauses and proofs: a map from PUIDs to places.
use Rattle.std.specs.Prelude.{◌≡◌, ℕ, List}
use Rattle.std.specs.BTreeMap.{get_by_text}
use Rattle.droid_pronom.specs.Registry.{place_of}
use Rattle.droid_pronom.specs.declared.format.Format.{Format}
use Rattle.droid_signature.specs.declared.places.Places.{Places}

-- the map has for each PUID the place of the first of these formats with it
pub record AreOf (map : Places) (formats : List Format) : Type 0 where
  pub each : (puid : List ℕ) → get_by_text map.places puid ≡ place_of puid formats
