-- The rows of an export: the header, and for each record one row for each format, or one row without a format.
use Rattle.std.specs.Prelude.{ℕ, ◌==◌, Bool, List, [], ◌∷◌, length, map, codes, if◌then◌else◌, Option, Some, None}
use Rattle.std.specs.Prelude.{slice_get}
use Rattle.std.specs.Option.{option_and_then}
use Rattle.std.specs.Fmt.{decimal}
use Rattle.hex.specs.Hex.{encode_lower}
use Rattle.droid_frame.specs.Hashes.{hash_bytes}
use Rattle.droid_frame.specs.declared.hash_kind.HashKind.{HashKind}
use Rattle.droid_frame.specs.declared.method.Method as methods
use Rattle.droid_frame.specs.declared.method.Method.TheVariants.{Unidentified, Signature, Extension}
use Rattle.droid_frame.specs.declared.node_kind.NodeKind.{NodeKind}
use Rattle.droid_frame.specs.declared.record.Record.{Record}
use Rattle.droid_pronom.specs.Registry.{Contents, place_of}
use Rattle.droid_pronom.specs.declared.format.Format.{Format}
use Rattle.droid_export.specs.Filters.{extension, found_by, mismatch}
use Rattle.droid_frame.specs.Filters.{is_file}
use Rattle.droid_export.specs.Moments.{moment_text}
use Rattle.droid_export.specs.Table.{columns, name_of}
use Rattle.droid_export.specs.Uris.{uri}
use Rattle.droid_export.specs.declared.column.Column.{Column}
use Rattle.droid_export.specs.declared.column.Column.TheVariants.{Id, ParentId, Uri, FilePath, Name, Method, Status}
use Rattle.droid_export.specs.declared.column.Column.TheVariants.{Size, Kind, Ext, LastModified, ExtensionMismatch}
use Rattle.droid_export.specs.declared.column.Column.TheVariants.{Hash, FormatCount, Puid, MimeType, FormatName}
use Rattle.droid_export.specs.declared.column.Column.TheVariants.{FormatVersion}

-- a row: what each column says
abbrev pub Row : Type 0
Row = Column → List ℕ

-- the fields of a row in the order of the columns
abbrev pub fields : Row → List (List ℕ)
fields row = map row columns

-- the names of the columns
abbrev pub header : HashKind → Row
header hash = name_of hash

-- the four columns of a format
pub record Shown : Type 0 where
  pub puid : List ℕ
  pub mime_type : List ℕ
  pub name : List ℕ
  pub version : List ℕ

-- a row without a format
abbrev pub no_format : Shown
no_format = record { puid = []; mime_type = []; name = []; version = [] }

-- the registry's format with this PUID
unfoldable pub format_of : Contents → List ℕ → Option Format
format_of registry puid = option_and_then (λ place. slice_get registry.formats place) (place_of puid registry.formats)

-- a part of a format, or nothing if there is no format
abbrev pub of_format : Option Format → (Format → List ℕ) → List ℕ
of_format (Some format) part = part format
of_format None part = []

-- the columns of a PUID; for a format that the registry lacks, only the PUID itself
abbrev pub shown_by : List ℕ → Option Format → Shown
shown_by puid format = record {
  puid = puid;
  mime_type = of_format format (λ it. it.mime);
  name = of_format format (λ it. it.name);
  version = of_format format (λ it. it.version);
}

-- what a row shows of the format with this PUID
abbrev pub shown : Contents → List ℕ → Shown
shown registry puid = shown_by puid (format_of registry puid)

-- the name of a method
abbrev pub method_name : methods.Method → List ℕ
method_name Unidentified = []
method_name Signature = codes "Signature"
method_name Extension = codes "Extension"

-- a truth value
abbrev pub truth : Bool → List ℕ
truth b = if b then codes "true" else codes "false"

-- the ID of a parent; nothing for 0, which means the top
abbrev pub parent_text : ℕ → List ℕ
parent_text n = if n == 0 then [] else decimal n

-- the name of a kind of node
abbrev pub kind_name : NodeKind → List ℕ
kind_name kind = if is_file kind then codes "File" else codes "Folder"

-- the column of a file; nothing for a folder
abbrev pub of_file : Record → List ℕ → List ℕ
of_file node text = if is_file node.kind then text else []

-- a row of a record
unfoldable pub row : Record → Shown → Row
row node format Id = decimal node.id
row node format ParentId = parent_text node.parent
row node format Uri = uri node.path node.kind
row node format FilePath = node.path
row node format Name = node.name
row node format Method = method_name (found_by node)
row node format Status = codes "Done"
row node format Size = of_file node (decimal node.size)
row node format Kind = kind_name node.kind
row node format Ext = extension node
row node format LastModified = moment_text node.modified
row node format ExtensionMismatch = truth (mismatch node)
row node format Hash = of_file node (encode_lower (hash_bytes node.hash))
row node format FormatCount = of_file node (decimal (length node.puids))
row node format Puid = format.puid
row node format MimeType = format.mime_type
row node format FormatName = format.name
row node format FormatVersion = format.version

-- the rows of a record: one for each format, in order, or one without a format
abbrev pub rows_by : Contents → Record → List (List ℕ) → List Row
rows_by registry node [] = row node no_format ∷ []
rows_by registry node (puid ∷ puids) = map (λ one. row node (shown registry one)) (puid ∷ puids)

-- the rows of a record, by its own formats
unfoldable pub rows : Contents → Record → List Row
rows registry node = rows_by registry node node.puids
