-- What the columns of a profile's row may say (docs/CSV.md). Names and limits are those of the service.
use Rattle.std.specs.Prelude.{ℕ, ◌+◌, ◌-◌, ◌==◌, ◌&&◌, ◌||◌, ◌^◌, not, nat_lt, nat_le, Bool, false, List, [], ◌∷◌}
use Rattle.std.specs.Prelude.{length, map, take, drop, max, Option, Some, None, codes, if◌then◌else◌}
use Rattle.std.specs.Char.{is_ascii_digit}
use Rattle.std.specs.List.{list_all, slice_split}
use Rattle.std.specs.Option.{is_some, unwrap_or}
use Rattle.std.specs.Str.{bytes_eq, is_utf8}
use Rattle.std.specs.Fmt.{decimal}
use Rattle.droid_frame.specs.declared.hash_kind.HashKind.{HashKind}
use Rattle.droid_frame.specs.declared.hash_kind.HashKind.TheVariants as hashes
use Rattle.droid_frame.specs.declared.node_kind.NodeKind.{NodeKind}
use Rattle.droid_frame.specs.declared.node_kind.NodeKind.TheVariants.{File, Folder}
use Rattle.droid_pronom.specs.Found.{extension_of}
use Rattle.droid_pronom.specs.RegistryFields.{is_puid}
use Rattle.droid_export.specs.Rows.{parent_text}
use Rattle.droid_export.specs.Uris.{uri}
use Rattle.droid_frame.specs.Paths.{is_file_path}
use Rattle.droid_export.specs.Fields.{number_of as digits_of}
use Rattle.droid_export.specs.ReadFields.{has_no_slash}
use Rattle.droid_export.specs.ReadMoments.{is_moment}
use Rattle.droid_export.specs.Profiles.{shared_columns}
pub use Rattle.droid_lists.specs.RowReading.{at}
use Rattle.droid_lists.specs.declared.spelling.row_formats.Texts.{Texts}

-- ---- the first wrong column

-- a column, and whether it is as it has to be
abbrev pub Test : Type 0
Test = Bool × ℕ

-- the first column that is not as it has to be
abbrev pub first_wrong : List Test → Option ℕ
first_wrong [] = None
first_wrong (test ∷ tests) = if test.0 then first_wrong tests else Some test.1

-- a wrong column, or else one that comes later
abbrev pub or_later : Option ℕ → Option ℕ → Option ℕ
or_later None later = later
or_later (Some column) later = Some column

-- ---- the fields of a row

-- the bytes of the fields of a row, in the order of the columns
abbrev pub Row : Type 0
Row = List (List ℕ)

-- ---- numbers

-- the number that was read from a text, if the text is its decimal digits without a zero in front
abbrev pub if_plain : List ℕ → Option ℕ → Option ℕ
if_plain text None = None
if_plain text (Some number) = if bytes_eq text (decimal number) then Some number else None

-- a number as an export writes it: decimal digits without a zero in front, below 2 ^ 64
abbrev pub number_of : List ℕ → Option ℕ
number_of text = if_plain text (digits_of text)

-- the number that a column says, or 0 if it says none
abbrev pub number_at : Row → ℕ → ℕ
number_at row column = unwrap_or (number_of (at row column)) 0

-- there is a number, and it is no greater than this
abbrev pub is_at_most : ℕ → Option ℕ → Bool
is_at_most most None = false
is_at_most most (Some number) = nat_le number most

-- a text is the PARENT_ID for this number, if there is one
abbrev pub is_parent : List ℕ → Option ℕ → Bool
is_parent text None = false
is_parent text (Some id) = bytes_eq text (parent_text id)

-- a number above the last one, up to the most entries that a profile has
abbrev pub is_next : ℕ → Option ℕ → Bool
is_next last None = false
is_next last (Some number) = nat_lt last number && nat_le number 100000

-- ---- paths

-- the byte between names
abbrev pub is_slash : ℕ → Bool
is_slash byte = byte == 47

-- no name is too long for a profile
abbrev pub are_short : List ℕ → Bool
are_short path = list_all (λ name. nat_le (length name) 255) (slice_split is_slash path)

-- bytes that are UTF-8
abbrev pub utf8_of : List ℕ → Option (List ℕ)
utf8_of bytes = if is_utf8 bytes then Some bytes else None

-- `/` and names of at most 255 bytes, at most 4,096 bytes
abbrev pub is_path : List ℕ → Bool
is_path path = is_file_path path && nat_le (length path) 4096 && are_short path

-- a path of UTF-8
abbrev pub path_of : List ℕ → Option (List ℕ)
path_of path = if is_path path then utf8_of path else None

-- how many bytes of a row's path stand before the slash and the name
abbrev pub above_length : Row → ℕ
above_length row = length (at row 3) - (length (at row 4) + 1)

-- the path of the folder above, if the name ends the path
abbrev pub above : Row → List ℕ
above row = take (above_length row) (at row 3)

-- the name is what stands behind the last slash of the path
abbrev pub is_named : Row → Bool
is_named row = has_no_slash (at row 4) && bytes_eq (drop (above_length row) (at row 3)) (47 ∷ at row 4)

-- ---- kinds

-- TYPE says that it is a file
abbrev pub is_file : Row → Bool
is_file row = bytes_eq (at row 8) (codes "File")

-- TYPE says that it is a file or a folder
abbrev pub is_kind : Row → Bool
is_kind row = is_file row || bytes_eq (at row 8) (codes "Folder")

-- what TYPE says, where it says one of them
abbrev pub kind_in : Row → NodeKind
kind_in row = if is_file row then File else Folder

-- ---- what a file has

-- STATUS
abbrev pub is_done : Row → Bool
is_done row = bytes_eq (at row 6) (codes "Done")

-- the size of a file that a service takes
abbrev pub is_size : List ℕ → Bool
is_size text = is_at_most (2 ^ 40) (number_of text)

-- a number of formats: a registry has no more
abbrev pub is_count : List ℕ → Bool
is_count text = is_at_most 4096 (number_of text)

-- lower-case hexadecimal digits
abbrev pub is_digest_byte : ℕ → Bool
is_digest_byte c = is_ascii_digit c || (nat_le 97 c && nat_le c 102)

-- how many digits a digest has
abbrev pub digest_length : HashKind → ℕ
digest_length hashes.Nothing = 0
digest_length hashes.Md5 = 32
digest_length hashes.Sha256 = 64

-- a digest of this kind
abbrev pub is_digest : HashKind → List ℕ → Bool
is_digest hash text = (length text == digest_length hash) && list_all is_digest_byte text

-- a date and a time of day
abbrev pub is_moment_text : List ℕ → Bool
is_moment_text text = (length text == 19) && is_moment text

-- a text is the extension of a name
abbrev pub extends : Option (List ℕ) → List ℕ → Bool
extends None text = false
extends (Some name) text = bytes_eq text (extension_of name)

-- what stands behind the last dot of a name that is text
abbrev pub is_extension_of : List ℕ → List ℕ → Bool
is_extension_of name text = extends (utf8_of name) text

-- ---- columns that a folder has not

-- SIZE
abbrev pub has_size : Row → Bool
has_size row = if is_file row then is_size (at row 7) else length (at row 7) == 0

-- EXT
abbrev pub is_extension : Row → Bool
is_extension row = if is_file row then is_extension_of (at row 4) (at row 9) else length (at row 9) == 0

-- the column of the hash
abbrev pub has_digest : HashKind → Row → Bool
has_digest hash row = if is_file row then is_digest hash (at row 12) else length (at row 12) == 0

-- FORMAT_COUNT
abbrev pub has_count : Row → Bool
has_count row = if is_file row then is_count (at row 13) else length (at row 13) == 0

-- ---- formats

-- how many formats a row's record has
abbrev pub formats_in : Row → ℕ
formats_in row = number_at row 13

-- how many rows it has: one for each format, or one without a format
abbrev pub rows_in : Row → ℕ
rows_in row = max 1 (formats_in row)

-- METHOD says that the formats were found by signature
abbrev pub is_by_signature : Row → Bool
is_by_signature row = bytes_eq (at row 5) (codes "Signature")

-- METHOD: one exactly where there are formats
abbrev pub is_method : Row → Bool
is_method row =
    if formats_in row == 0 then length (at row 5) == 0
    else is_by_signature row || bytes_eq (at row 5) (codes "Extension")

-- only formats that were found by signature contradict an extension
abbrev pub is_mismatch : Row → Bool
is_mismatch row =
    bytes_eq (at row 11) (codes "false")
    || (bytes_eq (at row 11) (codes "true") && is_by_signature row && not (length (at row 9) == 0))

-- what a column says of a format: at most 255 bytes of UTF-8
abbrev pub is_note : List ℕ → Bool
is_note text = nat_le (length text) 255 && is_some (utf8_of text)

-- a name is not empty
abbrev pub is_format_name : List ℕ → Bool
is_format_name text = not (length text == 0) && is_note text

-- the three columns behind a PUID
abbrev pub texts_in : Row → Texts
texts_in row = record { mime = at row 15; name = at row 16; version = at row 17 }

-- what the first row with a PUID may say of it, which others repeat
abbrev pub are_first : Texts → List Test
are_first new = (is_note new.mime, 15) ∷ (is_format_name new.name, 16) ∷ (is_note new.version, 17) ∷ []

-- what further rows say of a PUID
abbrev pub are_repeated : Texts → Texts → List Test
are_repeated known new =
    (bytes_eq new.mime known.mime, 15) ∷ (bytes_eq new.name known.name, 16) ∷ (bytes_eq new.version known.version, 17)
    ∷ []

-- by whether an earlier row has the PUID
abbrev pub texts_tests : Option Texts → Texts → List Test
texts_tests None new = are_first new
texts_tests (Some known) new = are_repeated known new

-- a row without a format has nothing there
abbrev pub are_none : List ℕ → Texts → List Test
are_none puid new =
    (length puid == 0, 14) ∷ (length new.mime == 0, 15) ∷ (length new.name == 0, 16) ∷ (length new.version == 0, 17)
    ∷ []

-- a PUID that its record has not yet, and that is known or finds place
abbrev pub is_right_puid : Bool → Bool → List ℕ → Bool
is_right_puid has_place is_repeated puid = is_puid puid && not is_repeated && has_place

-- a PUID that its record has not yet, and that finds place
abbrev pub is_new_puid : Bool → Bool → List ℕ → Bool
is_new_puid has_place is_repeated puid = is_some (utf8_of puid) && is_right_puid has_place is_repeated puid

-- a row's format: what is known of its PUID, whether its record has it already, and whether there is place for one more
abbrev pub format_tests : Option Texts → Bool → Bool → ℕ → Row → List Test
format_tests known is_repeated has_place count row =
    if count == 0 then are_none (at row 14) (texts_in row)
    else (is_new_puid (is_some known || has_place) is_repeated (at row 14), 14) ∷ texts_tests known (texts_in row)

-- ---- the tests of a row

-- Where a record stands: after the last ID; its path is known or not, and its folder has this ID. FILE_PATH, NAME and
-- TYPE come early, since they say what PARENT_ID and URI must be.
abbrev pub place_tests : ℕ → Bool → Option ℕ → Row → List Test
place_tests last is_known parent row =
    (is_next last (number_of (at row 0)), 0)
    ∷ (is_some (path_of (at row 3)) && not is_known, 3)
    ∷ (is_named row, 4)
    ∷ (is_kind row, 8)
    ∷ (is_parent (at row 1) parent, 1)
    ∷ (bytes_eq (at row 2) (uri (at row 3) (kind_in row)), 2)
    ∷ []

-- what it is
abbrev pub content_tests : HashKind → Row → List Test
content_tests hash row =
    (is_done row, 6)
    ∷ (has_size row, 7)
    ∷ (is_extension row, 9)
    ∷ (is_moment_text (at row 10), 10)
    ∷ (has_digest hash row, 12)
    ∷ (has_count row, 13)
    ∷ (is_method row, 5)
    ∷ (is_mismatch row, 11)
    ∷ []

-- two rows of a record have the same bytes in each column but those of the format
abbrev pub shared_tests : Row → Row → List Test
shared_tests first row = map (λ column. (bytes_eq (at row column) (at first column), column)) shared_columns
