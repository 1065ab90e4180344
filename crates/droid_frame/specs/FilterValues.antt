-- For inner clauses and proofs: functions that read filters from the front of bytes, and return the value and the bytes
-- after it.
use Rattle.std.specs.Prelude.{ℕ, zero, suc, ◌==◌, if◌then◌else◌, List, [], ◌∷◌, Option, Some, None}
use Rattle.std.specs.Int.{w64}
use Rattle.droid_frame.specs.declared.criterion.Criterion.{Criterion}
use Rattle.droid_frame.specs.declared.criterion.Criterion.TheVariants.{MethodIs, PuidIn, ExtIn, MismatchIs, SizeAtLeast}
use Rattle.droid_frame.specs.declared.criterion.Criterion.TheVariants.{SizeAtMost, KindIs}
use Rattle.droid_frame.specs.declared.filter.Filter.{Filter}
use Rattle.droid_frame.specs.declared.node_kind.NodeKind.{NodeKind}
use Rattle.droid_frame.specs.declared.node_kind.NodeKind.TheVariants.{File, Folder}
use Rattle.droid_frame.specs.Reading.{◌>>=◌, byte_at, number_at, truth_at, method_at, whole}
use Rattle.droid_frame.specs.SequenceFields.{counted_at}
use Rattle.droid_frame.specs.TextListFields.{sized_text_at}

-- the kind of a node at the front
unfoldable pub node_kind_at : List ℕ → Option (NodeKind × List ℕ)
node_kind_at [] = None
node_kind_at (zero ∷ rest) = Some (File, rest)
node_kind_at (suc zero ∷ rest) = Some (Folder, rest)
node_kind_at (suc (suc b) ∷ rest) = None

-- texts after their count
unfoldable pub list_at : List ℕ → Option (List (List ℕ) × List ℕ)
list_at bytes = counted_at (sized_text_at 0 255) bytes

-- ---- the value of the criterion of each tag, and the bytes after it

-- tag 1
unfoldable pub method_is_at : List ℕ → Option (Criterion × List ℕ)
method_is_at bytes = do
  method ← method_at bytes
  Some (MethodIs method.0, method.1)

-- tag 2
unfoldable pub puid_in_at : List ℕ → Option (Criterion × List ℕ)
puid_in_at bytes = do
  texts ← list_at bytes
  Some (PuidIn texts.0, texts.1)

-- tag 3
unfoldable pub ext_in_at : List ℕ → Option (Criterion × List ℕ)
ext_in_at bytes = do
  texts ← list_at bytes
  Some (ExtIn texts.0, texts.1)

-- tag 4
unfoldable pub mismatch_is_at : List ℕ → Option (Criterion × List ℕ)
mismatch_is_at bytes = do
  mismatch ← truth_at bytes
  Some (MismatchIs mismatch.0, mismatch.1)

-- tag 5
unfoldable pub size_at_least_at : List ℕ → Option (Criterion × List ℕ)
size_at_least_at bytes = do
  size ← number_at w64 bytes
  Some (SizeAtLeast size.0, size.1)

-- tag 6
unfoldable pub size_at_most_at : List ℕ → Option (Criterion × List ℕ)
size_at_most_at bytes = do
  size ← number_at w64 bytes
  Some (SizeAtMost size.0, size.1)

-- tag 7
unfoldable pub kind_is_at : List ℕ → Option (Criterion × List ℕ)
kind_is_at bytes = do
  kind ← node_kind_at bytes
  Some (KindIs kind.0, kind.1)

-- the criterion of a tag that has no list
unfoldable pub plain_at : ℕ → List ℕ → Option (Criterion × List ℕ)
plain_at tag bytes =
    if tag == 1 then method_is_at bytes
    else if tag == 4 then mismatch_is_at bytes
    else if tag == 5 then size_at_least_at bytes
    else if tag == 6 then size_at_most_at bytes
    else if tag == 7 then kind_is_at bytes
    else None

-- the criterion of a tag
unfoldable pub tagged_at : ℕ → List ℕ → Option (Criterion × List ℕ)
tagged_at tag bytes =
    if tag == 2 then puid_in_at bytes
    else if tag == 3 then ext_in_at bytes
    else plain_at tag bytes

-- a tag, and then its criterion
unfoldable pub criterion_at : List ℕ → Option (Criterion × List ℕ)
criterion_at bytes = do
  tag ← byte_at bytes
  tagged_at tag.0 tag.1

-- a filter
unfoldable pub filter_at : List ℕ → Option (Filter × List ℕ)
filter_at bytes = do
  all ← truth_at bytes
  criteria ← counted_at criterion_at all.1
  Some (record { all = all.0; criteria = criteria.0 }, criteria.1)

-- the filter that the bytes spell, with none left over
unfoldable pub filter_value : List ℕ → Option Filter
filter_value bytes = do
  filter ← filter_at bytes
  whole filter.1 filter.0
