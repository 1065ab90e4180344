-- The CSV of files (this project's own): RFC 4180 with each field between double quotes.
use Rattle.std.specs.Prelude.{ℕ, Bool, List, [], ◌∷◌, ◌++◌, Option, Some, None, codes, flat_map, if◌then◌else◌}
use Rattle.std.specs.Fmt.{decimal}
use Rattle.droid_export.specs.Csv.{line}
use Rattle.droid_frame.specs.declared.method.Method.{Method}
use Rattle.droid_frame.specs.declared.method.Method.TheVariants as methods
use Rattle.droid_identity.specs.declared.kind.TextKind.{TextKind}
use Rattle.droid_cmd_identify.specs.Lines.{basis_text, kind_name}
use Rattle.droid_cmd_identify.specs.declared.forms.shown_file.ShownFile.{ShownFile}
use Rattle.droid_cmd_identify.specs.declared.forms.shown_file.ShownHash.{ShownHash}
use Rattle.droid_cmd_identify.specs.declared.forms.shown_format.ShownFormat.{ShownFormat}

-- the names of the columns
abbrev pub columns : List (List ℕ)
columns =
    codes "PATH" ∷ codes "SIZE" ∷ codes "METHOD" ∷ codes "MISMATCH" ∷ codes "PUID" ∷ codes "MIME_TYPE"
    ∷ codes "FORMAT_NAME" ∷ codes "FORMAT_VERSION" ∷ codes "BASIS" ∷ codes "HASH" ∷ []

-- the first line
abbrev pub header : List ℕ
header = line columns

-- the methods as the CSV of a profile has them
abbrev pub method_text : Method → List ℕ
method_text methods.Signature = codes "Signature"
method_text methods.Extension = codes "Extension"
method_text methods.Unidentified = []

-- `true` or `false`
abbrev pub bool_text : Bool → List ℕ
bool_text value = if value then codes "true" else codes "false"

-- the digits of a hash, or nothing
abbrev pub digits_of : Option ShownHash → List ℕ
digits_of None = []
digits_of (Some hash) = hash.digits.now

-- `text, ASCII`, or nothing of what is no plain text
abbrev pub kind_basis : Option TextKind → List ℕ
kind_basis None = []
kind_basis (Some kind) = codes "text, " ++ kind_name kind

-- the fields of a row: those of the file, and these
abbrev pub row_with : ShownFile → (size puid mime name version basis : List ℕ) → List (List ℕ)
row_with file size puid mime name version basis =
    file.path.now ∷ size ∷ method_text file.method ∷ bool_text file.mismatch ∷ puid ∷ mime ∷ name ∷ version ∷ basis
    ∷ digits_of file.hash ∷ []

-- the row of a format
abbrev pub row_of_format : ShownFile → ShownFormat → List (List ℕ)
row_of_format file its =
    row_with file (decimal file.size) its.format.now.puid its.format.now.mime its.format.now.name its.format.now.version
    (basis_text its.reason)

-- the row of a file without formats
abbrev pub row_of_none : ShownFile → List (List ℕ)
row_of_none file = row_with file (decimal file.size) [] [] [] [] (kind_basis file.text)

-- a row for each format, or one that stands for none
abbrev pub rows_of : ShownFile → List ShownFormat → List ℕ
rows_of file [] = line (row_of_none file)
rows_of file (its ∷ more) = flat_map (λ form. line (row_of_format file form)) (its ∷ more)

-- all rows of a file
abbrev pub csv_rows : ShownFile → List ℕ
csv_rows file = rows_of file file.formats.now
