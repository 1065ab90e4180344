-- For inner clauses and proofs: checksums of requests that were computed side by side.
use Rattle.std.specs.Prelude.{◌≡◌, ◌<◌, ◌≤◌, ℕ, List, [], ◌++◌, ◌-◌, Option, Some, None, drop, length, slice_index}
use Rattle.std.specs.Prelude.{slice_index_or, take}
use Rattle.droid_journal.specs.Reading.{request_in}
use Rattle.droid_journal.specs.Records.{checksum}
use Rattle.droid_journal.specs.declared.records.key.Form.{Form}
use Rattle.droid_compaction.specs.declared.sums.Sums.{Sums}

-- the second list is an end of the first
abbrev pub IsEndOf : List ℕ → List ℕ → Type 0
IsEndOf bytes rest = (front : List ℕ) × (bytes ≡ front ++ rest)

-- this is the checksum of the request at the front, if one with a whole header is there
abbrev pub IsSumOf : Form → List ℕ → List ℕ → Type 0
IsSumOf form bytes sum =
    (request : List ℕ) → request_in form bytes ≡ Some request → 18 ≤ length request → sum ≡ checksum request

-- where as many bytes are left as a lane says, its digest is the checksum of the request there
abbrev pub AreSumsIn : Form → List ℕ → Sums → Type 0
AreSumsIn form bytes sums =
    (lane : ℕ) → lane < 8 → (rest : List ℕ) → IsEndOf bytes rest → length rest ≡ slice_index sums.left lane
    → IsSumOf form rest (slice_index_or sums.digests lane [])

-- the last `count` bytes
abbrev pub last_in : List ℕ → ℕ → List ℕ
last_in bytes count = drop (length bytes - count) bytes

-- the request at the front, and no bytes if there is none
abbrev pub request_or_none : Option (List ℕ) → List ℕ
request_or_none (Some request) = request
request_or_none None = []

-- the byte of the kind of the request at the front, or none
abbrev pub kind_in : Form → List ℕ → List ℕ
kind_in form bytes = take 1 (drop 1 (request_or_none (request_in form bytes)))

-- the body of the request at the front, or no bytes
abbrev pub body_in : Form → List ℕ → List ℕ
body_in form bytes = drop 18 (request_or_none (request_in form bytes))
