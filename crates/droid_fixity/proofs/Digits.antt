-- The digits of a digest.
use Rattle.std.proofs.Common.{◌≡◌, ℕ, List, length, Option, Some, Result, Ok, Err, IsOk, refl, arith}
use Rattle.hex.specs.Hex.{decode_sized}
use Rattle.hex.specs.declared.FromHexError.{FromHexError}
use Rattle.hex.proofs.HexLemmas.{IsOk-decode_sized}
use Rattle.droid_frame.specs.declared.hash_value.HashValue.{HashValue}
use Rattle.droid_fixity.specs.Digests.{md5_by, md5_of, sha256_by, sha256_of}

pub md5_ok : (hash : HashValue) (r : Result (List ℕ) FromHexError) → md5_by r ≡ Some hash → IsOk r
md5_ok hash (Ok digest) is = refl
md5_ok hash (Err fault) is = absurd cc

pub sha256_ok : (hash : HashValue) (r : Result (List ℕ) FromHexError) → sha256_by r ≡ Some hash → IsOk r
sha256_ok hash (Ok digest) is = refl
sha256_ok hash (Err fault) is = absurd cc

pub md5_length : (digits : List ℕ) (hash : HashValue) → md5_of digits ≡ Some hash → length digits ≡ 32
md5_length digits hash is = ((IsOk-decode_sized digits 16).0 (md5_ok hash (decode_sized digits 16) is)).0

pub sha256_length : (digits : List ℕ) (hash : HashValue) → sha256_of digits ≡ Some hash → length digits ≡ 64
sha256_length digits hash is = ((IsOk-decode_sized digits 32).0 (sha256_ok hash (decode_sized digits 32) is)).0
