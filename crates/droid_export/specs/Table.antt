-- The columns of a profile's CSV (docs/CSV.md): those of DROID and the hash. Their names and order are this project's
-- own.
use Rattle.std.specs.Prelude.{ℕ, ◌+◌, ◌==◌, List, [], ◌∷◌, codes, length, Option, slice_get, if◌then◌else◌}
use Rattle.std.specs.Option.{unwrap_or}
use Rattle.csv.specs.Records.{field_at}
use Rattle.droid_frame.specs.declared.hash_kind.HashKind.{HashKind}
use Rattle.droid_frame.specs.declared.hash_kind.HashKind.TheVariants as hashes
use Rattle.droid_export.specs.declared.column.Column.{Column}
use Rattle.droid_export.specs.declared.column.Column.TheVariants.{Id, ParentId, Uri, FilePath, Name, Method, Status}
use Rattle.droid_export.specs.declared.column.Column.TheVariants.{Size, Kind, Ext, LastModified, ExtensionMismatch}
use Rattle.droid_export.specs.declared.column.Column.TheVariants.{Hash, FormatCount, Puid, MimeType, FormatName}
use Rattle.droid_export.specs.declared.column.Column.TheVariants.{FormatVersion}

-- all columns, in their order
abbrev pub columns : List Column
columns =
    Id ∷ ParentId ∷ Uri ∷ FilePath ∷ Name ∷ Method ∷ Status ∷ Size ∷ Kind ∷ Ext ∷ LastModified ∷ ExtensionMismatch
    ∷ Hash ∷ FormatCount ∷ Puid ∷ MimeType ∷ FormatName ∷ FormatVersion ∷ []

-- the name of the column of these hashes
abbrev pub hash_column : HashKind → List ℕ
hash_column hashes.Nothing = codes "HASH"
hash_column hashes.Md5 = codes "MD5_HASH"
hash_column hashes.Sha256 = codes "SHA256_HASH"

-- the name of a column, in a CSV with hashes of this kind
abbrev pub name_of : HashKind → Column → List ℕ
name_of hash Id = codes "ID"
name_of hash ParentId = codes "PARENT_ID"
name_of hash Uri = codes "URI"
name_of hash FilePath = codes "FILE_PATH"
name_of hash Name = codes "NAME"
name_of hash Method = codes "METHOD"
name_of hash Status = codes "STATUS"
name_of hash Size = codes "SIZE"
name_of hash Kind = codes "TYPE"
name_of hash Ext = codes "EXT"
name_of hash LastModified = codes "LAST_MODIFIED"
name_of hash ExtensionMismatch = codes "EXTENSION_MISMATCH"
name_of hash Hash = hash_column hash
name_of hash FormatCount = codes "FORMAT_COUNT"
name_of hash Puid = codes "PUID"
name_of hash MimeType = codes "MIME_TYPE"
name_of hash FormatName = codes "FORMAT_NAME"
name_of hash FormatVersion = codes "FORMAT_VERSION"

-- the name, or the names that the column of the hashes may have
abbrev pub names_of : Column → List ℕ
names_of Hash = codes "MD5_HASH, SHA256_HASH or HASH"
names_of column = name_of hashes.Nothing column

-- how many columns stand before a column
abbrev pub place_of : Column → ℕ
place_of Id = 0
place_of ParentId = 1
place_of Uri = 2
place_of FilePath = 3
place_of Name = 4
place_of Method = 5
place_of Status = 6
place_of Size = 7
place_of Kind = 8
place_of Ext = 9
place_of LastModified = 10
place_of ExtensionMismatch = 11
place_of Hash = 12
place_of FormatCount = 13
place_of Puid = 14
place_of MimeType = 15
place_of FormatName = 16
place_of FormatVersion = 17

-- the byte behind the field of a column: a line feed behind the last, and a comma behind each other one
abbrev pub mark_of : Column → ℕ
mark_of column = if place_of column + 1 == length columns then 10 else 44

-- the column at a place, counted from 0
abbrev pub column_at : ℕ → Option Column
column_at place = slice_get columns place

-- the field at a place of a record, or nothing past the last
abbrev pub field_or : List (List ℕ) → ℕ → List ℕ
field_or row place = unwrap_or (field_at row place) []

-- what a column says, in a record with all columns
abbrev pub said : List (List ℕ) → Column → List ℕ
said row column = field_or row (place_of column)
