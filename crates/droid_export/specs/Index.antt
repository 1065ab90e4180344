-- For inner clauses and proofs: an index of the lists in a filter's criteria. For each text it has the places of the
-- criteria that list it.
use Rattle.std.specs.Prelude.{◌≡◌, ℕ, Bool, true, false, ◌==◌, List, [], map, get_or, if◌then◌else◌, String}
use Rattle.std.specs.BTreeMap.{BTreeMap, get_by_text}
use Rattle.std.specs.List.{list_any}
use Rattle.std.specs.Option.{option_map_or}
use Rattle.std.specs.Str.{bytes_eq, str_to_ascii_lowercase}
use Rattle.std.specs.declared.vec.Vec.{Vec}
use Rattle.std.specs.declared.alloc.Global.{Global}
use Rattle.droid_frame.specs.declared.criterion.Criterion.{Criterion}
use Rattle.droid_frame.specs.declared.criterion.Criterion.TheVariants.{MethodIs, PuidIn, ExtIn, MismatchIs, SizeAtLeast}
use Rattle.droid_frame.specs.declared.criterion.Criterion.TheVariants.{SizeAtMost, KindIs}
use Rattle.droid_frame.specs.declared.record.Record.{Record}
use Rattle.droid_export.specs.Filters.{is_met}
use Rattle.droid_export.specs.declared.index.Index.{Index}

-- the places of a text
abbrev pub places_of : BTreeMap (String Global) (Vec ℕ Global) → List ℕ → List ℕ
places_of named text = option_map_or (λ places. places.items) (get_by_text named text) []

-- whether a text has this place in the index
abbrev pub names : BTreeMap (String Global) (Vec ℕ Global) → List ℕ → ℕ → Bool
names named text at = list_any (λ place. place == at) (places_of named text)

-- the key of a text: in lower case, if case makes no difference
abbrev pub key : Bool → List ℕ → List ℕ
key caseless text = if caseless then str_to_ascii_lowercase text else text

-- whether one of the texts has this key
abbrev pub has_key : Bool → List (List ℕ) → List ℕ → Bool
has_key caseless texts text = list_any (λ other. bytes_eq text (key caseless other)) texts

-- whether a criterion lists this PUID
unfoldable pub asks_identifier : List ℕ → Criterion → Bool
asks_identifier puid (MethodIs method) = false
asks_identifier puid (PuidIn texts) = has_key false texts puid
asks_identifier puid (ExtIn texts) = false
asks_identifier puid (MismatchIs wanted) = false
asks_identifier puid (SizeAtLeast size) = false
asks_identifier puid (SizeAtMost size) = false
asks_identifier puid (KindIs kind) = false

-- whether a criterion lists this extension, given in lower case
unfoldable pub asks_extension : List ℕ → Criterion → Bool
asks_extension ext (MethodIs method) = false
asks_extension ext (PuidIn texts) = false
asks_extension ext (ExtIn texts) = has_key true texts ext
asks_extension ext (MismatchIs wanted) = false
asks_extension ext (SizeAtLeast size) = false
asks_extension ext (SizeAtMost size) = false
asks_extension ext (KindIs kind) = false

-- the index has for each text exactly the places of the criteria that list it
pub record IsIndex (criteria : List Criterion) (index : Index) : Type 0 where
  pub identifiers : (text : List ℕ) (at : ℕ)
      → names index.identifiers text at ≡ get_or (map (asks_identifier text) criteria) at false
  pub extensions : (text : List ℕ) (at : ℕ)
      → names index.extensions text at ≡ get_or (map (asks_extension text) criteria) at false

-- whether a criterion has a list of texts
abbrev pub has_list : Criterion → Bool
has_list (MethodIs method) = false
has_list (PuidIn texts) = true
has_list (ExtIn texts) = true
has_list (MismatchIs wanted) = false
has_list (SizeAtLeast size) = false
has_list (SizeAtMost size) = false
has_list (KindIs kind) = false

-- whether a record meets a criterion that has no list
unfoldable pub is_met_plainly : Record → Criterion → Bool
is_met_plainly node criterion = if has_list criterion then false else is_met node criterion
