-- Digests in hexadecimal digits.
use Rattle.std.specs.Prelude.{ℕ, ◌==◌, List, length, Option, Some, None, Result, Ok, Err, if◌then◌else◌}
use Rattle.hex.specs.Hex.{decode_sized, encode_lower}
use Rattle.hex.specs.declared.FromHexError.{FromHexError}
use Rattle.droid_frame.specs.declared.hash_value.HashValue.{HashValue}
use Rattle.droid_frame.specs.declared.hash_value.HashValue.TheVariants.{Nothing, Md5, Sha256}

-- The digest of these bytes, if digits could be read. `decode_sized` is the kit's `hex`: two digits of either case for
-- each of this many bytes, and nothing else.
abbrev pub md5_by : Result (List ℕ) FromHexError → Option HashValue
md5_by (Ok digest) = Some (Md5 digest)
md5_by (Err fault) = None

-- the same of a SHA-256
abbrev pub sha256_by : Result (List ℕ) FromHexError → Option HashValue
sha256_by (Ok digest) = Some (Sha256 digest)
sha256_by (Err fault) = None

-- the MD5 that 32 digits stand for
abbrev pub md5_of : List ℕ → Option HashValue
md5_of digits = md5_by (decode_sized digits 16)

-- the SHA-256 that 64 digits stand for
abbrev pub sha256_of : List ℕ → Option HashValue
sha256_of digits = sha256_by (decode_sized digits 32)

-- the hash that hexadecimal digits of either case stand for: 32 are an MD5, 64 a SHA-256
abbrev pub hash_of : List ℕ → Option HashValue
hash_of digits =
    if length digits == 32 then md5_of digits
    else if length digits == 64 then sha256_of digits else None
