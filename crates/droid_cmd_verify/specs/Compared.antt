-- Which files of both sides were compared, and how (this project's own).
use Rattle.std.specs.Prelude.{ℕ, Bool, true, false, not, ◌&&◌, List, ◌++◌, Option, Some, None, filter_map, slice_get}
use Rattle.std.specs.Prelude.{if◌then◌else◌}
use Rattle.droid_frame.specs.Items.{both_hashed, both_sized, changes_between, is_any}
use Rattle.droid_fixity.specs.declared.difference.Difference.{Difference}
use Rattle.droid_fixity.specs.declared.difference.Difference.TheVariants.{Changed, Missing, New, Moved, Touched}
use Rattle.droid_frame.specs.declared.item.Item.{Item}
use Rattle.droid_fixity.specs.declared.pair.FilePair.{FilePair}
use Rattle.droid_cmd_verify.specs.declared.measure.Measure.{Measure}
use Rattle.droid_cmd_verify.specs.declared.measure.Measure.TheVariants.{Hashes, Sizes, Moments}

-- whether modification times are compared
abbrev pub by_moments : Measure → Bool
by_moments Hashes = false
by_moments Sizes = false
by_moments Moments = true

-- whether hashes are compared
abbrev pub by_hashes : Measure → Bool
by_hashes Hashes = true
by_hashes Sizes = false
by_hashes Moments = false

-- whether both items are there and have a hash of one kind
abbrev pub hashed_by : Option Item → Option Item → Bool
hashed_by (Some a) (Some b) = both_hashed a b
hashed_by (Some a) None = false
hashed_by None b = false

-- whether both items are there and have a length
abbrev pub sized_by : Option Item → Option Item → Bool
sized_by (Some a) (Some b) = both_sized a b
sized_by (Some a) None = false
sized_by None b = false

-- whether both items are there and differ in what both have
abbrev pub differ_by : Option Item → Option Item → Bool
differ_by (Some a) (Some b) = is_any (changes_between a b)
differ_by (Some a) None = false
differ_by None b = false

-- whether both files of a pair have a hash of one kind
abbrev pub is_hashed : List Item → List Item → FilePair → Bool
is_hashed listed found pair = hashed_by (slice_get listed pair.listed) (slice_get found pair.found)

-- whether both files of a pair have a length
abbrev pub is_sized : List Item → List Item → FilePair → Bool
is_sized listed found pair = sized_by (slice_get listed pair.listed) (slice_get found pair.found)

-- whether both files of a pair differ in what both have
abbrev pub differs : List Item → List Item → FilePair → Bool
differs listed found pair = differ_by (slice_get listed pair.listed) (slice_get found pair.found)

-- A file counts as compared only by a hash of both sides. One of which nothing known differs, without such a hash, is
-- unchecked; unless files are to be compared by less.
abbrev pub is_unchecked : Measure → List Item → List Item → FilePair → Bool
is_unchecked how listed found pair =
    by_hashes how && not (is_hashed listed found pair) && not (differs listed found pair)

-- Whether a pair was compared: by hashes, or by sizes. A list of checksums has no sizes: with `--quick` only names are
-- compared, which does not count.
abbrev pub is_compared : Measure → List Item → List Item → FilePair → Bool
is_compared how listed found pair = if by_hashes how then is_hashed listed found pair else is_sized listed found pair

-- the place, among the items found, of a file of both that was compared
abbrev pub compared_at : Measure → List Item → List Item → FilePair → Option ℕ
compared_at how listed found pair = if is_compared how listed found pair then Some pair.found else None

-- the place, among the items found, of a file that moved: its hash is that of the list
abbrev pub moved_to : Difference → Option ℕ
moved_to (Changed l f changes) = None
moved_to (Missing l) = None
moved_to (New f) = None
moved_to (Moved l f) = Some f
moved_to (Touched l f) = None

-- the places of all files that were compared
abbrev pub compared_in : Measure → List Item → List Item → List FilePair → List Difference → List ℕ
compared_in how listed found pairs differences =
    filter_map (compared_at how listed found) pairs ++ filter_map moved_to differences
