-- The spelling of filters (this project's own).
use Rattle.std.specs.Prelude.{ℕ, ◌<◌, ◌≤◌, ◌^◌, Bool, true, false, List, [], ◌∷◌, ◌++◌, length}
use Rattle.std.specs.List.{AllByRecursion}
use Rattle.droid_frame.specs.declared.criterion.Criterion.{Criterion}
use Rattle.droid_frame.specs.declared.criterion.Criterion.TheVariants.{MethodIs, PuidIn, ExtIn, MismatchIs, SizeAtLeast}
use Rattle.droid_frame.specs.declared.criterion.Criterion.TheVariants.{SizeAtMost, KindIs}
use Rattle.droid_frame.specs.declared.filter.Filter.{Filter}
use Rattle.droid_frame.specs.declared.node_kind.NodeKind.{NodeKind}
use Rattle.droid_frame.specs.declared.node_kind.NodeKind.TheVariants.{File, Folder}
use Rattle.droid_frame.specs.Fields.{u64_bytes, truth_bytes, method_bytes}
use Rattle.droid_frame.specs.Limits.{count_limit}
use Rattle.droid_frame.specs.Sequences.{counted_bytes}
use Rattle.droid_frame.specs.TextLists.{IsSizedText, sized_bytes}

-- the kind of a node is one byte, 0 or 1
abbrev pub node_kind_number : NodeKind → ℕ
node_kind_number File = 0
node_kind_number Folder = 1

-- whether a node is a file, and not a folder
abbrev pub is_file : NodeKind → Bool
is_file File = true
is_file Folder = false

-- the byte of a node's kind
abbrev pub node_kind_bytes : NodeKind → List ℕ
node_kind_bytes kind = node_kind_number kind ∷ []

-- the number of texts, and then each text after its length
abbrev pub list_bytes : List (List ℕ) → List ℕ
list_bytes texts = counted_bytes sized_bytes texts

-- a tag of one byte, and then the value that the criterion asks for
abbrev pub criterion_bytes : Criterion → List ℕ
criterion_bytes (MethodIs method) = 1 ∷ method_bytes method
criterion_bytes (PuidIn texts) = 2 ∷ list_bytes texts
criterion_bytes (ExtIn texts) = 3 ∷ list_bytes texts
criterion_bytes (MismatchIs mismatch) = 4 ∷ truth_bytes mismatch
criterion_bytes (SizeAtLeast size) = 5 ∷ u64_bytes size
criterion_bytes (SizeAtMost size) = 6 ∷ u64_bytes size
criterion_bytes (KindIs kind) = 7 ∷ node_kind_bytes kind

-- whether all criteria must be met, the number of criteria, and then each criterion
abbrev pub filter_bytes : Filter → List ℕ
filter_bytes filter = truth_bytes filter.all ++ counted_bytes criterion_bytes filter.criteria

-- ---- values that have a spelling

-- at most 255 texts, each UTF-8 of at most 255 bytes
pub record IsList (texts : List (List ℕ)) : Type 0 where
  pub few : length texts < 256
  pub each : AllByRecursion (IsSizedText 0 255) texts

-- the criterion has a spelling: its list is one, or its size fits eight bytes
abbrev pub IsCriterion : Criterion → Type 0
IsCriterion (MethodIs method) = Unit {0}
IsCriterion (PuidIn texts) = IsList texts
IsCriterion (ExtIn texts) = IsList texts
IsCriterion (MismatchIs mismatch) = Unit {0}
IsCriterion (SizeAtLeast size) = size < 2 ^ 64
IsCriterion (SizeAtMost size) = size < 2 ^ 64
IsCriterion (KindIs kind) = Unit {0}

-- the filter has a spelling: at most 255 criteria, each with a spelling
pub record IsFilter (filter : Filter) : Type 0 where
  pub few : length filter.criteria < 256
  pub each : AllByRecursion IsCriterion filter.criteria

-- ---- values that are short enough to have a spelling

-- the list has at most 255 texts, each of at most 255 bytes
pub record ListFits (texts : List (List ℕ)) : Type 0 where
  pub few : length texts ≤ count_limit
  pub short : AllByRecursion (λ text. length text ≤ count_limit) texts

-- the criterion's list, if it has one, is short enough
abbrev pub CriterionFits : Criterion → Type 0
CriterionFits (MethodIs method) = Unit {0}
CriterionFits (PuidIn texts) = ListFits texts
CriterionFits (ExtIn texts) = ListFits texts
CriterionFits (MismatchIs mismatch) = Unit {0}
CriterionFits (SizeAtLeast size) = Unit {0}
CriterionFits (SizeAtMost size) = Unit {0}
CriterionFits (KindIs kind) = Unit {0}

-- the filter has at most 255 criteria, each short enough
pub record FilterFits (filter : Filter) : Type 0 where
  pub few : length filter.criteria ≤ count_limit
  pub each : AllByRecursion CriterionFits filter.criteria
