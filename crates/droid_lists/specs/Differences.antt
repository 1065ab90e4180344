-- How a profile's text differs from what is known of its folders and files.
use Rattle.std.specs.Prelude.{◌≡◌, ℕ, ℤ, pos, negsuc, ◌+◌, ◌==◌, ◌&&◌, nat_le, nat_lt, Bool, List, [], ◌∷◌, ◌++◌}
use Rattle.std.specs.Prelude.{Option, Some, None, if◌then◌else◌}
use Rattle.std.specs.List.{flat_map, list_any}
use Rattle.std.specs.Option.{option_map}
use Rattle.std.specs.Fmt.{decimal}
use Rattle.std.specs.Str.{bytes_eq}
use Rattle.hex.specs.Hex.{encode_lower}
use Rattle.droid_frame.specs.Hashes.{hash_bytes, hash_kind_number, hash_value_kind}
use Rattle.droid_frame.specs.declared.hash_kind.HashKind.{HashKind}
use Rattle.droid_frame.specs.declared.hash_value.HashValue.{HashValue}
use Rattle.droid_frame.specs.declared.node_kind.NodeKind.{NodeKind}
use Rattle.droid_frame.specs.Filters.{is_file}
use Rattle.droid_export.specs.Moments.{moment_text}
use Rattle.droid_export.specs.Rows.{kind_name, method_name, parent_text, truth}
use Rattle.droid_lists.specs.EntryMaps.{Kept, kept_by, kept_in}
use Rattle.droid_lists.specs.ProfileRows.{Entry, found_in}
use Rattle.droid_lists.specs.ProfileTexts.{IsProfileText}
use Rattle.droid_lists.specs.RowTests.{Test, at, first_wrong}
use Rattle.droid_lists.specs.declared.known.Difference.{Difference}
use Rattle.droid_lists.specs.declared.known.Difference.TheVariants as differences
use Rattle.droid_lists.specs.declared.known.Known.{Known}

-- a column of numbers, which a folder has not
abbrev pub number_text : NodeKind → ℕ → List ℕ
number_text kind number = if is_file kind then decimal number else []

-- a moment from 0001-01-01T00:00:00 to 9999-12-31T23:59:59
abbrev pub has_text : ℤ → Bool
has_text (pos seconds) = nat_le seconds 253402300799
has_text (negsuc before) = nat_lt before 62135596800

-- a text is that of a moment that has one
abbrev pub is_moment_of : ℤ → List ℕ → Bool
is_moment_of seconds text = has_text seconds && bytes_eq text (moment_text seconds)

-- two hashes are of one kind, and have the same bytes
abbrev pub same_hash : HashValue → HashValue → Bool
same_hash one other =
    (hash_kind_number (hash_value_kind one) == hash_kind_number (hash_value_kind other))
    && bytes_eq (hash_bytes one) (hash_bytes other)

-- what is known of a folder or file, as its columns; PUIDs are compared by their digest
abbrev pub known_tests : Known → Kept → List Test
known_tests known kept =
    (bytes_eq (at kept.row 0) (decimal known.number), 0)
    ∷ (bytes_eq (at kept.row 1) (parent_text known.parent), 1)
    ∷ (bytes_eq (at kept.row 5) (method_name known.found.method), 5)
    ∷ (bytes_eq (at kept.row 7) (number_text known.kind known.size), 7)
    ∷ (bytes_eq (at kept.row 8) (kind_name known.kind), 8)
    ∷ (is_moment_of known.modified (at kept.row 10), 10)
    ∷ (bytes_eq (at kept.row 11) (truth known.found.mismatch), 11)
    ∷ (bytes_eq (at kept.row 12) (encode_lower (hash_bytes known.found.hash)), 12)
    ∷ (bytes_eq (at kept.row 13) (number_text known.kind known.found.formats), 13)
    ∷ (same_hash known.found.puids kept.puids, 14)
    ∷ []

-- the first column in which a record differs from what is known
unfoldable pub wrong_known : Known → Kept → Option ℕ
wrong_known known kept = first_wrong (known_tests known kept)

-- that this column differs from what is known at a place, if there is such a column
abbrev pub other_column : ℕ → ℕ → Option ℕ → List Difference
other_column place number None = []
other_column place number (Some column) = differences.Other place column number ∷ []

-- what is known at a place, beside what is kept of its record, if there is one
abbrev pub difference_with : ℕ → Known → Option Kept → List Difference
difference_with place known None = differences.Missing place ∷ []
difference_with place known (Some kept) = other_column place kept.number (wrong_known known kept)

-- the differences of what is known, from a place on, in order
abbrev pub known_from : ℕ → List Known → List Entry → List Difference
known_from place [] all = []
known_from place (one ∷ known) all =
    difference_with place one (option_map kept_by (found_in all one.path)) ++ known_from (place + 1) known all

-- whether something is known of this path
abbrev pub is_known : List Known → List ℕ → Bool
is_known known path = list_any (λ one. bytes_eq path one.path) known

-- a record, unless its path passes a test
abbrev pub if_more : (List ℕ → Bool) → Kept → List Difference
if_more is_held kept = if is_held (at kept.row 3) then [] else differences.More kept.number (at kept.row 3) ∷ []

-- the records whose paths do not pass the test
abbrev pub more_by : (List ℕ → Bool) → List Kept → List Difference
more_by is_held kept = flat_map (if_more is_held) kept

-- exactly what differs: what is known in its order, then what is more in the text's
abbrev pub differences_of : List Known → List Entry → List Difference
differences_of known all = known_from 0 known all ++ more_by (is_known known) (kept_in all)

-- the text was read in its one spelling, and these are its differences
pub record Compares (hash : HashKind) (known : List Known) (text : List ℕ) (found : List Difference) : Type 0 where
  pub entries : List Entry
  pub is : IsProfileText hash text entries
  pub are : found ≡ differences_of known entries
