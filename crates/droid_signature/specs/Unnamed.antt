-- The signatures that no format names.
use Rattle.std.specs.Prelude.{◌≡◌, ℕ, ◌==◌, Bool, List, [], ◌∷◌, ◌++◌, is_some, if◌then◌else◌}
use Rattle.std.specs.BTreeMap.{get_by}
use Rattle.std.specs.List.{flat_map, list_any}
use Rattle.std.specs.Ordering.{nat_cmp}
use Rattle.droid_signature_file.specs.Records.{FileRecord, FormatRecord, SignatureRecord}
use Rattle.droid_signature.specs.declared.nameless_signatures.Named.{Named}

-- the IDs that formats name
abbrev pub ids_named : List FormatRecord → List ℕ
ids_named formats = flat_map (λ format. format.signatures) formats

-- whether an ID is among these
abbrev pub is_named : List ℕ → ℕ → Bool
is_named ids id = list_any (λ other. other == id) ids

-- the IDs of the signatures whose ID is none of these
abbrev pub unnamed_among : List ℕ → List SignatureRecord → List ℕ
unnamed_among ids [] = []
unnamed_among ids (signature ∷ signatures) =
    (if is_named ids signature.id then [] else signature.id ∷ []) ++ unnamed_among ids signatures

-- the IDs of the signatures that no format names
abbrev pub unnamed : FileRecord → List ℕ
unnamed file = unnamed_among (ids_named file.formats) file.signatures

-- for inner clauses: the map has these IDs, and no others
pub record AreNamed (map : Named) (ids : List ℕ) : Type 0 where
  pub each : (id : ℕ) → is_some (get_by (nat_cmp id) map.ids) ≡ is_named ids id
