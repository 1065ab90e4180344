-- The conditions under which requests are refused.
use Rattle.std.specs.Prelude.{ℕ, zero, suc, ℤ, pos, negsuc, ◌+◌, ◌^◌, ◌==◌, ◌&&◌, ◌||◌, if◌then◌else◌, nat_lt, nat_le}
use Rattle.std.specs.Prelude.{Bool, true, false, not, List, [], ◌∷◌, length, Option, Some, None, is_none}
use Rattle.std.specs.Int.Signed.{lt_z}
use Rattle.std.specs.List.{list_any}
use Rattle.std.specs.Str.{bytes_eq}
use Rattle.droid_frame.specs.declared.hash_kind.HashKind.{HashKind}
use Rattle.droid_frame.specs.declared.hash_kind.HashKind.TheVariants as hashes
use Rattle.droid_assembly.specs.Pieces.{piece_count}
use Rattle.droid_core_spec.specs.World.{Node, Folder, File, Abandoned, node_at, path}

-- from 1 to 65,536
unfoldable pub is_scan_limit : ℕ → Bool
is_scan_limit n = nat_le 1 n && nat_le n 65536

-- the most bytes that a piece may have in a file that is announced in this version
abbrev pub piece_size_limit : ℕ → ℕ
piece_size_limit version = if version == 1 then 1048576 else 4194304

-- the size of a piece: from 1 to 1,048,576 in version 1, and to 4,194,304 in version 2
unfoldable pub is_piece_size : ℕ → ℕ → Bool
is_piece_size version n = nat_le 1 n && nat_le n (piece_size_limit version)

-- the bytes of a part of an export: from 1 to 1,048,576, in both versions
unfoldable pub is_part_size : ℕ → Bool
is_part_size n = nat_le 1 n && nat_le n 1048576

-- over 2^40 bytes, or more than 1,048,576 pieces
unfoldable pub is_too_large : ℕ → ℕ → Bool
is_too_large size piece_size = nat_lt (2 ^ 40) size || nat_lt 1048576 (piece_count size piece_size)

-- from 0001-01-01T00:00:00 to 9999-12-31T23:59:59
unfoldable pub is_moment : ℤ → Bool
is_moment seconds = not (lt_z seconds (negsuc 62135596799)) && not (lt_z (pos 253402300799) seconds)

-- a `/` or a zero byte
abbrev pub is_separator : ℕ → Bool
is_separator byte = (byte == 47) || (byte == 0)

-- empty, over 255 bytes, `.`, `..`, or with a `/` or a zero byte
unfoldable pub is_bad_name : List ℕ → Bool
is_bad_name name =
    (length name == 0) || nat_lt 255 (length name) || bytes_eq name (46 ∷ []) || bytes_eq name (46 ∷ 46 ∷ [])
    || list_any is_separator name

-- the top is always there
unfoldable pub is_missing : List Node → ℕ → Bool
is_missing nodes zero = false
is_missing nodes (suc place) = is_none (node_at nodes (suc place))

-- there is a node, and it is a file
unfoldable pub is_file : Option Node → Bool
is_file None = false
is_file (Some (Folder parent modified name)) = false
is_file (Some (File parent modified name content)) = true
is_file (Some Abandoned) = false

-- the path of a new node of this folder would pass 4,096 bytes
unfoldable pub is_too_deep : List Node → ℕ → List ℕ → Bool
is_too_deep nodes parent name = nat_lt 4096 (length (path nodes parent) + 1 + length name)

-- the hash kind is MD5
abbrev pub is_md5 : HashKind → Bool
is_md5 hashes.Nothing = false
is_md5 hashes.Md5 = true
is_md5 hashes.Sha256 = false

-- a Finished of this version can carry a hash of this kind: in version 1 it carries an MD5 and no other hash
abbrev pub is_carried : ℕ → HashKind → Bool
is_carried version hash = if version == 1 then is_md5 hash else true
