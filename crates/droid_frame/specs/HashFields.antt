-- For inner clauses and proofs, and for the clauses `exact`: functions that read hash kinds and digests from the front
-- of bytes, and return the value and the bytes after it.
use Rattle.std.specs.Prelude.{ℕ, zero, suc, nat_lt, ◌==◌, if◌then◌else◌, List, [], ◌∷◌, length, take, drop, Option}
use Rattle.std.specs.Prelude.{Some, None}
use Rattle.droid_frame.specs.declared.hash_kind.HashKind.{HashKind}
use Rattle.droid_frame.specs.declared.hash_kind.HashKind.TheVariants as kinds
use Rattle.droid_frame.specs.declared.hash_value.HashValue.{HashValue}
use Rattle.droid_frame.specs.declared.hash_value.HashValue.TheVariants as values
use Rattle.droid_frame.specs.Reading.{◌>>=◌}

-- the kind of a hash at the front
unfoldable pub hash_kind_at : List ℕ → Option (HashKind × List ℕ)
hash_kind_at [] = None
hash_kind_at (zero ∷ rest) = Some (kinds.Nothing, rest)
hash_kind_at (suc zero ∷ rest) = Some (kinds.Md5, rest)
hash_kind_at (suc (suc zero) ∷ rest) = Some (kinds.Sha256, rest)
hash_kind_at (suc (suc (suc b)) ∷ rest) = None

-- the kind of a hash in this version: version 1 has no field for it, and means MD5
unfoldable pub carried_kind_at : ℕ → List ℕ → Option (HashKind × List ℕ)
carried_kind_at version bytes = if version == 1 then Some (kinds.Md5, bytes) else hash_kind_at bytes

-- `count` bytes, and the bytes after them
unfoldable pub run_at : ℕ → List ℕ → Option (List ℕ × List ℕ)
run_at count bytes = if nat_lt (length bytes) count then None else Some (take count bytes, drop count bytes)

-- the digest of a hash of this kind
unfoldable pub hash_value_at : HashKind → List ℕ → Option (HashValue × List ℕ)
hash_value_at kinds.Nothing bytes = Some (values.Nothing, bytes)
hash_value_at kinds.Md5 bytes = do
  digest ← run_at 16 bytes
  Some (values.Md5 digest.0, digest.1)
hash_value_at kinds.Sha256 bytes = do
  digest ← run_at 32 bytes
  Some (values.Sha256 digest.0, digest.1)

-- the kind of a hash in this version, and then the digest of that kind
unfoldable pub digest_at : ℕ → List ℕ → Option (HashValue × List ℕ)
digest_at version bytes = do
  kind ← carried_kind_at version bytes
  hash_value_at kind.0 kind.1
