-- Which records meet a filter.
use Rattle.std.specs.Prelude.{ℕ, Bool, true, false, ◌||◌, ◌&&◌, nat_le, List, [], ◌∷◌, if◌then◌else◌}
use Rattle.std.specs.List.{list_any, list_all}
use Rattle.std.specs.Str.{bytes_eq, str_eq_ignore_ascii_case}
use Rattle.droid_frame.specs.declared.criterion.Criterion.{Criterion}
use Rattle.droid_frame.specs.declared.criterion.Criterion.TheVariants.{MethodIs, PuidIn, ExtIn, MismatchIs, SizeAtLeast}
use Rattle.droid_frame.specs.declared.criterion.Criterion.TheVariants.{SizeAtMost, KindIs}
use Rattle.droid_frame.specs.declared.filter.Filter.{Filter}
use Rattle.droid_frame.specs.declared.method.Method.{Method}
use Rattle.droid_frame.specs.declared.method.Method.TheVariants.{Unidentified, Signature, Extension}
use Rattle.droid_frame.specs.declared.record.Record.{Record}
use Rattle.droid_frame.specs.Filters.{is_file}
use Rattle.droid_pronom.specs.Found.{extension_of}

-- whether two methods are the same
abbrev pub same_method : Method → Method → Bool
same_method Unidentified Unidentified = true
same_method Unidentified Signature = false
same_method Unidentified Extension = false
same_method Signature Unidentified = false
same_method Signature Signature = true
same_method Signature Extension = false
same_method Extension Unidentified = false
same_method Extension Signature = false
same_method Extension Extension = true

-- whether two truth values are the same
abbrev pub same_truth : Bool → Bool → Bool
same_truth true b = b
same_truth false b = if b then false else true

-- the extension of a record: a folder has none
unfoldable pub extension : Record → List ℕ
extension node = if is_file node.kind then extension_of node.name else []

-- whether a file's extension contradicts its formats: a folder has no mismatch
unfoldable pub mismatch : Record → Bool
mismatch node = is_file node.kind && node.mismatch

-- the method by which a file was identified: a folder is unidentified, whatever its record says
unfoldable pub found_by : Record → Method
found_by node = if is_file node.kind then node.method else Unidentified

-- whether one of the texts is this one, byte for byte
abbrev pub is_among : List (List ℕ) → List ℕ → Bool
is_among texts text = list_any (λ other. bytes_eq text other) texts

-- whether one of the texts is this one, without regard to the case of ASCII letters
abbrev pub is_among_in_any_case : List (List ℕ) → List ℕ → Bool
is_among_in_any_case texts text = list_any (λ other. str_eq_ignore_ascii_case text other) texts

-- whether a record meets a criterion
unfoldable pub is_met : Record → Criterion → Bool
is_met node (MethodIs wanted) = same_method wanted (found_by node)
is_met node (PuidIn texts) = list_any (λ puid. is_among texts puid) node.puids
is_met node (ExtIn texts) = is_among_in_any_case texts (extension node)
is_met node (MismatchIs wanted) = same_truth wanted (mismatch node)
is_met node (SizeAtLeast size) = is_file node.kind && nat_le size node.size
is_met node (SizeAtMost size) = is_file node.kind && nat_le node.size size
is_met node (KindIs kind) = same_truth (is_file kind) (is_file node.kind)

-- whether the list of criteria is empty
abbrev pub is_none : List Criterion → Bool
is_none [] = true
is_none (criterion ∷ criteria) = false

-- whether a record meets a filter: all of its criteria, or without `all` at least one, if there are any
unfoldable pub meets : Filter → Record → Bool
meets filter node =
    if filter.all then list_all (is_met node) filter.criteria
    else is_none filter.criteria || list_any (is_met node) filter.criteria
