-- An MD5 has 16 bytes, and a SHA-256 has 32.
use Rattle.std.proofs.Common.{◌≡◌, ℕ, zero, suc, ◌*◌, ◌/◌, ◌%◌, ◌^◌, ◌<◌, List, length, refl, arith, length-append}
use Rattle.std.specs.Int.{byte_at, bytes_low_first, bytes_high_first, to_le_bytes, to_be_bytes, w32}
use Rattle.std.specs.Prelude.{slice_index}
use Rattle.md5.specs.Md5.{md5, digest_bytes, hash_after, padded_message}
use Rattle.sha2.specs.Sha256 as Sha
use Rattle.droid_frame.specs.Fields.{IsBytes}
use Rattle.droid_frame.specs.Hashes.{hash, IsHashValue}
use Rattle.droid_frame.specs.declared.hash_kind.HashKind.{HashKind}
use Rattle.droid_frame.specs.declared.hash_kind.HashKind.TheVariants as kinds
use Rattle.droid_frame.proofs.ByteLists.{IsBytes-nil, IsBytes-cons, IsBytes-append}

remainder_small : (n : ℕ) → n % 256 < 256
remainder_small n = omega arith

byte_small : (place n : ℕ) → byte_at place n < 256
byte_small zero n = remainder_small n
byte_small (suc place) n = remainder_small (n / 256 ^ suc place)

low_first : (place count n : ℕ) → IsBytes (bytes_low_first place count n)
low_first place zero n = IsBytes-nil
low_first place (suc count) n = IsBytes-cons (byte_at place n) (bytes_low_first (suc place) count n) (byte_small place n) (low_first (suc place) count n)

-- four bytes for each word
words_bytes : (hash : List ℕ) (count : ℕ) → (length (digest_bytes hash count) ≡ count * 4) × IsBytes (digest_bytes hash count)
unfolding digest_bytes
words_bytes hash zero = (refl, IsBytes-nil)
words_bytes hash (suc count) =
    let before = words_bytes hash count in
    let last = to_le_bytes w32 (slice_index hash count) in
    (omega (arith, before.0, length-append (digest_bytes hash count) last), IsBytes-append (digest_bytes hash count) last before.1 (low_first 0 4 (slice_index hash count)))

is_md5 : (message : List ℕ) → (length (md5 message) ≡ 16) × IsBytes (md5 message)
unfolding md5
is_md5 message = words_bytes (hash_after (padded_message message) (length (padded_message message) / 64)) 4

high_first : (count n : ℕ) → IsBytes (bytes_high_first count n)
high_first zero n = IsBytes-nil
high_first (suc count) n = IsBytes-cons (byte_at count n) (bytes_high_first count n) (byte_small count n) (high_first count n)

-- so too where the high bytes come first
sha_bytes : (hash : List ℕ) (count : ℕ) → (length (Sha.digest_bytes hash count) ≡ count * 4) × IsBytes (Sha.digest_bytes hash count)
unfolding Sha.digest_bytes
sha_bytes hash zero = (refl, IsBytes-nil)
sha_bytes hash (suc count) =
    let before = sha_bytes hash count in
    let last = to_be_bytes w32 (slice_index hash count) in
    (omega (arith, before.0, length-append (Sha.digest_bytes hash count) last), IsBytes-append (Sha.digest_bytes hash count) last before.1 (high_first 4 (slice_index hash count)))

is_sha256 : (message : List ℕ) → (length (Sha.sha256 message) ≡ 32) × IsBytes (Sha.sha256 message)
unfolding Sha.sha256
is_sha256 message = sha_bytes (Sha.final_hash Sha.initial_hash_256 message) 8

pub is_hash_value : (kind : HashKind) (message : List ℕ) → IsHashValue (hash kind message)
is_hash_value kinds.Nothing message = tt
is_hash_value kinds.Md5 message = is_md5 message
is_hash_value kinds.Sha256 message = is_sha256 message
