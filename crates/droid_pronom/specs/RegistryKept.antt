-- For inner clauses and proofs: the fields of a registry and its contents.
use Rattle.std.specs.Prelude.{◌≡◌, ℕ, ◌↔◌, List, length, Some, slice_get, true}
use Rattle.std.specs.BTreeMap.{get_by_text}
use Rattle.droid_pronom.specs.Registry.{Contents, IsRegistry, IsSigned, place_of}
use Rattle.droid_pronom.specs.declared.registry.Registry.TheInside.{Inside}

-- the contents that the fields hold
abbrev pub contents : Inside → Contents
contents a = record {
  formats = a.formats.items;
  extensions = a.extensions.items;
  priorities = a.priorities.items;
  signatures = a.signatures.items;
}

-- the look-up tables agree with the contents
pub record IsKept (a : Inside) : Type 0 where
  pub rules : IsRegistry (contents a)
  pub places : (puid : List ℕ) → get_by_text a.places puid ≡ place_of puid a.formats.items
  pub flags : length a.signed.items ≡ length a.formats.items
  pub signed : (k : ℕ) → (slice_get a.signed.items k ≡ Some true) ↔ IsSigned (contents a) k
