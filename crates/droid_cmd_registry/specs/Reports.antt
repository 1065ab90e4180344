-- What standard error says of a registry (this project's own).
use Rattle.std.specs.Prelude.{ℕ, Bool, true, false, List, [], ◌∷◌, ◌++◌, Option, Some, None, ◌==◌, codes, length}
use Rattle.std.specs.Prelude.{slice_get, if◌then◌else◌}
use Rattle.std.specs.Fmt.{decimal}
use Rattle.std.specs.List.{flat_map}
use Rattle.hex.specs.Hex.{encode_lower}
use Rattle.md5.specs.Md5.{md5}
use Rattle.droid_terminal.specs.Paths.{shown_text}
use Rattle.droid_signature_file.specs.Records.{FileRecord, FormatRecord}
use Rattle.droid_signature.specs.declared.conversion.Taken.{Taken}
use Rattle.droid_signature_file.specs.declared.whole_file.UnknownName.{UnknownName}
use Rattle.droid_signature_file.specs.declared.whole_file.UnknownPart.{UnknownPart}
use Rattle.droid_signature_file.specs.declared.whole_file.UnknownPart.TheVariants as parts
use Rattle.droid_signature.specs.declared.left_out.Item.{Item}
use Rattle.droid_signature.specs.declared.left_out.Item.TheVariants as items
use Rattle.droid_signature.specs.declared.left_out.LeftOut.{LeftOut}
use Rattle.droid_cmd_registry.specs.Reasons.{why_text}

-- the MD5 of a registry file, in hexadecimal digits
abbrev pub digest_text : List ℕ → List ℕ
digest_text csv = encode_lower (md5 csv)

-- a signature file by its version and date
unfoldable pub described : FileRecord → List ℕ
described file = codes "version " ++ (shown_text file.version ++ (codes ", of " ++ shown_text file.created))

-- the line beside the registry that says which it is
unfoldable pub note_text : FileRecord → List ℕ → List ℕ
note_text file digest =
    codes "signature file: " ++ (described file ++ (codes "; registry: MD5 " ++ (digest ++ 10 ∷ [])))

-- the line of the signature file
unfoldable pub described_line : FileRecord → List ℕ
described_line file = codes "signature file: " ++ (described file ++ 10 ∷ [])

-- the line of what was taken
unfoldable pub taken_line : Taken → List ℕ
taken_line taken =
    codes "taken: "
    ++ (decimal taken.formats
    ++ (codes " formats, "
    ++ (decimal taken.signatures
    ++ (codes " signatures, "
    ++ (decimal taken.extensions
    ++ (codes " extensions, " ++ (decimal taken.priorities ++ (codes " priorities" ++ 10 ∷ []))))))))

-- the line of a name and a number
unfoldable pub count_line : List ℕ → ℕ → List ℕ
count_line name count = name ++ (codes ": " ++ (decimal count ++ 10 ∷ []))

-- the line of the registry's MD5
unfoldable pub digest_line : List ℕ → List ℕ
digest_line digest = codes "registry: MD5 " ++ (digest ++ 10 ∷ [])

-- how much the registry has, how much it has not, and which it is
unfoldable pub numbers_text : FileRecord → Taken → List LeftOut → List ℕ → List ℕ
numbers_text file taken left digest =
    described_line file
    ++ (taken_line taken
    ++ (count_line (codes "left out") (length left)
    ++ (count_line (codes "unknown names") (length file.unknown) ++ digest_line digest)))

-- the word for an element or an attribute
abbrev pub part_text : UnknownPart → List ℕ
part_text parts.Element = codes "element"
part_text parts.Attribute = codes "attribute"

-- a name that is not known, and how often it stands there
unfoldable pub unknown_line : UnknownName → List ℕ
unknown_line it =
    codes "unknown "
    ++ (part_text it.part
    ++ (codes ": " ++ (shown_text it.name ++ (codes ": " ++ (decimal it.count ++ (codes " times" ++ 10 ∷ []))))))

-- names beyond those that are listed
unfoldable pub unlisted_line : ℕ → List ℕ
unlisted_line count =
    if count == 0 then [] else codes "further unknown names: " ++ (decimal count ++ (codes " times" ++ 10 ∷ []))

-- a format by its PUID, or by its ID in the file
abbrev pub subject_by : Option (List ℕ) → ℕ → List ℕ
subject_by (Some puid) id = shown_text puid
subject_by None id = codes "format " ++ decimal id

-- how a format is named in a line
abbrev pub subject_of : FormatRecord → List ℕ
subject_of format = subject_by format.puid format.id

-- how a format is named in a line, and what stands behind it; nothing if there is no format
abbrev pub subject : Option FormatRecord → List ℕ
subject (Some format) = subject_of format ++ codes ": "
subject None = []

-- an extension by its text
abbrev pub extension_by : Option (List ℕ) → List ℕ
extension_by (Some extension) = codes "extension " ++ (shown_text extension ++ codes ": ")
extension_by None = []

-- the extension at a place among a format's
abbrev pub extension_text : Option FormatRecord → ℕ → List ℕ
extension_text (Some format) at = extension_by (slice_get format.extensions at)
extension_text None at = []

-- what is left out, if it is not a whole format
abbrev pub item_text : Option FormatRecord → Item → List ℕ
item_text format items.Format = []
item_text format (items.Extension at) = extension_text format at
item_text format (items.Priority id) = codes "priority over format " ++ (decimal id ++ codes ": ")
item_text format (items.Signature id) = codes "signature " ++ (decimal id ++ codes ": ")

-- the format at a place of the file
abbrev pub format_at : List FormatRecord → Option ℕ → Option FormatRecord
format_at formats (Some place) = slice_get formats place
format_at formats None = None

-- something that is left out: its format, what it is, and why
unfoldable pub left_text : Option FormatRecord → LeftOut → List ℕ
left_text format it =
    codes "left out: " ++ (subject format ++ (item_text format it.item ++ (why_text it.why ++ 10 ∷ [])))

-- the line of something that is left out
abbrev pub left_line : List FormatRecord → LeftOut → List ℕ
left_line formats it = left_text (format_at formats it.format) it

-- the lines of single things
unfoldable pub lines_text : FileRecord → List LeftOut → List ℕ
lines_text file left =
    flat_map unknown_line file.unknown ++ (unlisted_line file.unlisted ++ flat_map (left_line file.formats) left)

-- `quiet` keeps the numbers alone
abbrev pub unless_quiet : Bool → List ℕ → List ℕ
unless_quiet true text = []
unless_quiet false text = text

-- the numbers, and the lines unless they are not wanted
unfoldable pub report_text : Bool → FileRecord → Taken → List LeftOut → List ℕ → List ℕ
report_text quiet file taken left digest =
    numbers_text file taken left digest ++ unless_quiet quiet (lines_text file left)
