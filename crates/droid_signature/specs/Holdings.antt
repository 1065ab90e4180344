-- For inner clauses and proofs: a map from IDs to what has them.
use Rattle.std.specs.Prelude.{◌≡◌, ℕ, List, unwrap_or}
use Rattle.std.specs.BTreeMap.{get_by}
use Rattle.std.specs.Ordering.{nat_cmp}
use Rattle.droid_signature.specs.Holders.{holder}
use Rattle.droid_signature.specs.declared.ids.Holder.TheVariants.{Nobody}
use Rattle.droid_signature.specs.declared.ids.Ids.{Ids}

-- the map has for each ID what has it in this list
pub record AreOf (map : Ids) (ids : List ℕ) : Type 0 where
  pub each : (id : ℕ) → unwrap_or (get_by (nat_cmp id) map.holders) Nobody ≡ holder id ids
