-- A mark is bytes.
use Rattle.std.proofs.Common.{ℕ, zero, suc, ◌/◌, ◌%◌, ◌^◌, ◌<◌, List, ◌∷◌, length, arith}
use Rattle.std.specs.Int.{byte_at, bytes_low_first, to_le_bytes, w32}
use Rattle.std.specs.Prelude.{slice_index}
use Rattle.md5.specs.Md5.{md5, digest_bytes, hash_after, padded_message}
use Rattle.droid_frame.specs.Fields.{IsBytes}
use Rattle.droid_frame.specs.Frames.{mark_of}
use Rattle.droid_frame.proofs.ByteLists.{IsBytes-nil, IsBytes-cons, IsBytes-append}

remainder_small : (n : ℕ) → n % 256 < 256
remainder_small n = omega arith

byte_small : (place n : ℕ) → byte_at place n < 256
byte_small zero n = remainder_small n
byte_small (suc place) n = remainder_small (n / 256 ^ suc place)

low_first : (place count n : ℕ) → IsBytes (bytes_low_first place count n)
low_first place zero n = IsBytes-nil
low_first place (suc count) n = IsBytes-cons (byte_at place n) (bytes_low_first (suc place) count n) (byte_small place n) (low_first (suc place) count n)

words_bytes : (hash : List ℕ) (count : ℕ) → IsBytes (digest_bytes hash count)
unfolding digest_bytes
words_bytes hash zero = IsBytes-nil
words_bytes hash (suc count) =
    IsBytes-append (digest_bytes hash count) (to_le_bytes w32 (slice_index hash count)) (words_bytes hash count) (low_first 0 4 (slice_index hash count))

pub mark_is_bytes : (kind : ℕ) (body : List ℕ) → IsBytes (mark_of kind body)
unfolding md5
mark_is_bytes kind body = words_bytes (hash_after (padded_message (kind ∷ body)) (length (padded_message (kind ∷ body)) / 64)) 4
