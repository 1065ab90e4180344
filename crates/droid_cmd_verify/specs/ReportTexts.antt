-- The CSV of what is reported (this project's own).
use Rattle.std.specs.Prelude.{ℕ, List, [], ◌∷◌, ◌++◌, Option, Some, None, codes, slice_get}
use Rattle.std.specs.Fmt.{decimal}
use Rattle.std.specs.List.{flat_map}
use Rattle.hex.specs.Hex.{encode_lower}
use Rattle.droid_terminal.specs.Paths.{cause_text}
use Rattle.droid_export.specs.Csv.{line}
use Rattle.droid_frame.specs.Hashes.{hash_bytes}
use Rattle.droid_frame.specs.declared.hash_value.HashValue.{HashValue}
use Rattle.droid_frame.specs.declared.hash_value.HashValue.TheVariants as hashes
use Rattle.droid_fixity.specs.declared.difference.Difference.{Difference}
use Rattle.droid_fixity.specs.declared.difference.Difference.TheVariants.{Changed, Missing, New, Moved, Touched}
use Rattle.droid_frame.specs.declared.item.Item.{Item}
use Rattle.droid_cmd_verify.specs.declared.finding.Finding.{Finding}
use Rattle.droid_cmd_verify.specs.declared.finding.Kind.{Kind}
use Rattle.droid_cmd_verify.specs.declared.finding.Kind.TheVariants.{Differs, Unchecked, Unreadable, Formats}

-- the names of the columns
abbrev pub column_names : List (List ℕ)
column_names =
    codes "difference" ∷ codes "path" ∷ codes "size" ∷ codes "hash" ∷ codes "formats" ∷ codes "found_path"
    ∷ codes "found_size" ∷ codes "found_hash" ∷ codes "found_formats" ∷ codes "reason" ∷ []

-- the name of a finding
abbrev pub difference_name : Difference → List ℕ
difference_name (Changed l f changes) = codes "changed"
difference_name (Missing l) = codes "missing"
difference_name (New f) = codes "new"
difference_name (Moved l f) = codes "moved"
difference_name (Touched l f) = codes "changed"

-- the first column
abbrev pub name_of : Kind → List ℕ
name_of (Differs difference) = difference_name difference
name_of (Unchecked pair) = codes "unchecked"
name_of (Unreadable why) = codes "unreadable"
name_of Formats = codes "format"

-- why an entry could not be read, or a file not compared
abbrev pub reason_of : Kind → List ℕ
reason_of (Differs difference) = []
reason_of (Unchecked pair) = codes "no hash to compare"
reason_of (Unreadable why) = cause_text why
reason_of Formats = []

-- the item of the list that a finding is about
abbrev pub listed_of : List Item → Kind → Option Item
listed_of listed (Differs (Changed l f changes)) = slice_get listed l
listed_of listed (Differs (Missing l)) = slice_get listed l
listed_of listed (Differs (New f)) = None
listed_of listed (Differs (Moved l f)) = slice_get listed l
listed_of listed (Differs (Touched l f)) = slice_get listed l
listed_of listed (Unchecked pair) = slice_get listed pair.listed
listed_of listed (Unreadable why) = None
listed_of listed Formats = None

-- the item of the tree that a finding is about
abbrev pub found_of : List Item → Kind → Option Item
found_of found (Differs (Changed l f changes)) = slice_get found f
found_of found (Differs (Missing l)) = None
found_of found (Differs (New f)) = slice_get found f
found_of found (Differs (Moved l f)) = slice_get found f
found_of found (Differs (Touched l f)) = slice_get found f
found_of found (Unchecked pair) = slice_get found pair.found
found_of found (Unreadable why) = None
found_of found Formats = None

-- a length, if it is known
abbrev pub length_text : Option ℕ → List ℕ
length_text None = []
length_text (Some n) = decimal n

-- the length of an item, if there is one and it is known
abbrev pub size_text : Option Item → List ℕ
size_text None = []
size_text (Some item) = length_text item.length

-- the hash of an item, if there is one
abbrev pub hash_of : Option Item → HashValue
hash_of None = hashes.Nothing
hash_of (Some item) = item.hash

-- its digits; no hash has none
abbrev pub hash_text : Option Item → List ℕ
hash_text item = encode_lower (hash_bytes (hash_of item))

-- the path of an item, if there is one
abbrev pub path_text : Option Item → List ℕ
path_text None = []
path_text (Some item) = item.path

-- the record of a finding, with these fields of both sides
abbrev pub record_with : Finding → List ℕ → List ℕ → List ℕ → List ℕ → List ℕ → List (List ℕ)
record_with finding size hash found_path found_size found_hash =
    name_of finding.kind ∷ finding.path ∷ size ∷ hash ∷ finding.formats ∷ found_path ∷ found_size ∷ found_hash
    ∷ finding.found_formats ∷ reason_of finding.kind ∷ []

-- by the item of the list and that of the tree
abbrev pub record_by : Finding → Option Item → Option Item → List (List ℕ)
record_by finding a b = record_with finding (size_text a) (hash_text a) (path_text b) (size_text b) (hash_text b)

-- the record of a finding, whose kind names the items by their places
abbrev pub record_of : List Item → List Item → Finding → List (List ℕ)
record_of listed found finding = record_by finding (listed_of listed finding.kind) (found_of found finding.kind)

-- the lines of findings
abbrev pub findings_text : List Item → List Item → List Finding → List ℕ
findings_text listed found findings = flat_map (λ finding. line (record_of listed found finding)) findings

-- the whole text
abbrev pub report_text : List Item → List Item → List Finding → List ℕ
report_text listed found findings = line column_names ++ findings_text listed found findings
