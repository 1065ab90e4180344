-- The hashes of files: none, MD5 (RFC 1321) or SHA-256 (FIPS 180-4).
use Rattle.std.specs.Prelude.{◌≡◌, ℕ, ◌==◌, if◌then◌else◌, List, [], ◌∷◌, length, MatchBool}
use Rattle.md5.specs.Md5.{md5}
use Rattle.sha2.specs.Sha256.{sha256}
use Rattle.droid_frame.specs.Fields.{IsBytes}
use Rattle.droid_frame.specs.declared.hash_kind.HashKind.{HashKind}
use Rattle.droid_frame.specs.declared.hash_kind.HashKind.TheVariants as kinds
use Rattle.droid_frame.specs.declared.hash_value.HashValue.{HashValue}
use Rattle.droid_frame.specs.declared.hash_value.HashValue.TheVariants as values

-- a kind's number, 0 to 2 (this project's own)
abbrev pub hash_kind_number : HashKind → ℕ
hash_kind_number kinds.Nothing = 0
hash_kind_number kinds.Md5 = 1
hash_kind_number kinds.Sha256 = 2

-- a kind is one byte, 0 to 2
abbrev pub hash_kind_bytes : HashKind → List ℕ
hash_kind_bytes kind = hash_kind_number kind ∷ []

-- the field for the kind of a hash in a body; version 1 has no such field
abbrev pub hash_field : ℕ → HashKind → List ℕ
hash_field version kind = if version == 1 then [] else hash_kind_bytes kind

-- version 1 can carry MD5 only, version 2 each kind
abbrev pub CarriesHash : ℕ → HashKind → Type 0
CarriesHash version kind = MatchBool (version == 1) (kind ≡ kinds.Md5) (Unit {0})

-- the kind of a hash value
abbrev pub hash_value_kind : HashValue → HashKind
hash_value_kind values.Nothing = kinds.Nothing
hash_value_kind (values.Md5 digest) = kinds.Md5
hash_value_kind (values.Sha256 digest) = kinds.Sha256

-- an MD5 has 16 bytes, a SHA-256 has 32
abbrev pub IsHashValue : HashValue → Type 0
IsHashValue values.Nothing = Unit {0}
IsHashValue (values.Md5 digest) = (length digest ≡ 16) × IsBytes digest
IsHashValue (values.Sha256 digest) = (length digest ≡ 32) × IsBytes digest

-- the digest, or no bytes if there is no hash
abbrev pub hash_bytes : HashValue → List ℕ
hash_bytes values.Nothing = []
hash_bytes (values.Md5 digest) = digest
hash_bytes (values.Sha256 digest) = digest

-- the hash of this kind of the whole list of bytes
abbrev pub hash : HashKind → List ℕ → HashValue
hash kinds.Nothing bytes = values.Nothing
hash kinds.Md5 bytes = values.Md5 (md5 bytes)
hash kinds.Sha256 bytes = values.Sha256 (sha256 bytes)
