-- What the fields of a profile's rows say, by which they become items (docs/CSV.md). Where nothing can be read, the
-- field is malformed.
use Rattle.std.specs.Prelude.{ℕ, ◌==◌, ◌&&◌, ◌+◌, ◌-◌, ◌^◌, nat_lt, Bool, not, List, ◌∷◌, length, take, drop, max}
use Rattle.std.specs.Prelude.{Option, Some, None, Result, Ok, Err, codes, if◌then◌else◌}
use Rattle.std.specs.List.{list_all}
use Rattle.std.specs.Option.{option_map, unwrap_or}
use Rattle.std.specs.Str.{bytes_eq}
use Rattle.hex.specs.Hex.{decode_sized, hex_digit_value}
use Rattle.hex.specs.declared.FromHexError.{FromHexError}
use Rattle.droid_frame.specs.declared.hash_kind.HashKind.{HashKind}
use Rattle.droid_frame.specs.declared.hash_kind.HashKind.TheVariants as hashes
use Rattle.droid_frame.specs.declared.hash_value.HashValue.{HashValue}
use Rattle.droid_frame.specs.declared.hash_value.HashValue.TheVariants as values
use Rattle.droid_frame.specs.declared.node_kind.NodeKind.{NodeKind}
use Rattle.droid_frame.specs.declared.node_kind.NodeKind.TheVariants.{File, Folder}
use Rattle.droid_export.specs.Fields.{number_of}
use Rattle.droid_frame.specs.Paths.{is_file_path}
use Rattle.droid_export.specs.ReadMoments.{is_moment}

-- ---- where an item is

-- an ID: 1 to 2 ^ 32 - 1
abbrev pub id_by : Option ℕ → Option ℕ
id_by None = None
id_by (Some n) = if nat_lt 0 n && nat_lt n (2 ^ 32) then Some n else None

-- an ID by its digits
abbrev pub id_of : List ℕ → Option ℕ
id_of text = id_by (number_of text)

-- the ID of the folder above; nothing stands for 0, the top
abbrev pub parent_of : List ℕ → Option ℕ
parent_of text = if length text == 0 then Some 0 else id_of text

-- the path of a folder or file: `/` and names, none of which is empty, `.` or `..`
abbrev pub path_of : List ℕ → Option (List ℕ)
path_of text = if is_file_path text then Some text else None

-- a name has no `/`
abbrev pub has_no_slash : List ℕ → Bool
has_no_slash name = list_all (λ b. not (b == 47)) name

-- the path above, if a path ends in `/` and this name
abbrev pub above_of : List ℕ → List ℕ → Option (List ℕ)
above_of path name =
    if has_no_slash name && bytes_eq (drop (length path - (length name + 1)) path) (47 ∷ name)
    then Some (take (length path - (length name + 1)) path) else None

-- ---- what an item is

-- a file has a length, a folder has none
abbrev pub length_of : NodeKind → List ℕ → Option (Option ℕ)
length_of File text = option_map Some (number_of text)
length_of Folder text = if length text == 0 then Some None else None

-- a moment, or it is not known
abbrev pub moment_of : List ℕ → Option (Option (List ℕ))
moment_of text =
    if length text == 0 then Some None
    else if (length text == 19) && is_moment text then Some (Some text) else None

-- how many rows an item has: one for each format, or one
abbrev pub rows_of_count : Option ℕ → Option ℕ
rows_of_count None = None
rows_of_count (Some n) = Some (max 1 n)

-- how many rows an item has, by its kind and its column
abbrev pub rows_of : NodeKind → List ℕ → Option ℕ
rows_of File text = rows_of_count (number_of text)
rows_of Folder text = if length text == 0 then Some 1 else None

-- ---- hashes

-- the value of a hexadecimal digit, and 16 for another byte
abbrev pub digit_of : ℕ → ℕ
digit_of c = unwrap_or (hex_digit_value c) 16

-- the digest that hexadecimal digits stand for
abbrev pub md5_of : Result (List ℕ) FromHexError → Option HashValue
md5_of (Ok digest) = Some (values.Md5 digest)
md5_of (Err fault) = None

-- the SHA-256 that digits stand for
abbrev pub sha256_of : Result (List ℕ) FromHexError → Option HashValue
sha256_of (Ok digest) = Some (values.Sha256 digest)
sha256_of (Err fault) = None

-- the digest of this kind that a text spells
abbrev pub digest_of : HashKind → List ℕ → Option HashValue
digest_of hashes.Nothing text = None
digest_of hashes.Md5 text = md5_of (decode_sized text 16)
digest_of hashes.Sha256 text = sha256_of (decode_sized text 32)

-- a hash may be missing, and a folder has none
abbrev pub digest_by : HashKind → NodeKind → List ℕ → Option HashValue
digest_by digest File text = digest_of digest text
digest_by digest Folder text = None

-- what the hash's column says: a digest, or nothing
abbrev pub hash_of : HashKind → NodeKind → List ℕ → Option HashValue
hash_of digest kind text = if length text == 0 then Some values.Nothing else digest_by digest kind text
