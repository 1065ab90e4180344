-- For clauses and proofs: reading a record from the front of bytes, part by part. Nothing is read (`None`) where too
-- few bytes are there.
use Rattle.std.specs.Prelude.{◌≡◌, ℕ, ◌+◌, Bool, true, false, List, [], ◌∷◌, length, take, drop, Option, Some, None}
use Rattle.std.specs.Prelude.{nat_lt, nat_le, ◌==◌, if◌then◌else◌}
use Rattle.std.specs.Int.{w32, from_be_bytes}
use Rattle.std.specs.Str.{bytes_eq}
use Rattle.droid_journal.specs.Records.{Record, has_marks, made, mark_at, next_check}
use Rattle.droid_journal.specs.declared.records.key.Form.{Form}
use Rattle.droid_journal.specs.declared.records.key.Key.{Key}
use Rattle.droid_journal.specs.declared.records.place.Place.{Place}

-- goes on with what was read; nothing is read if nothing was
infixl 10 ◌>>=◌
abbrev pub ◌>>=◌ : {A B : Type 0} → Option A → (A → Option B) → Option B
(Some x) >>= f = f x
None >>= f = None

-- what a function of the code returned, turned by `view` into the values that definitions speak of, is what reading
-- here gives: the same value, or nothing in both
abbrev pub Gives : {X Y : Type 0} → (X → Y) → Option X → Option Y → Type 0
Gives view (Some x) read = read ≡ Some (view x)
Gives view None read = read ≡ None

-- of the bytes behind a byte 1 those behind the mark: in version 4 it has 16 bytes, version 3 has none
unfoldable pub behind_mark : Form → List ℕ → Option (List ℕ)
behind_mark form bytes =
    if has_marks form then (if nat_lt (length bytes) 16 then None else Some (drop 16 bytes)) else Some bytes

-- whether all before a record was on the disk, and the bytes behind its beginning, without a look at the mark
abbrev pub front_at : Form → List ℕ → Option (Bool × List ℕ)
front_at form [] = None
front_at form (byte ∷ rest) =
    if byte == 0 then Some (false, rest) else if byte == 1
    then (behind_mark form rest >>= λ behind. Some (true, behind)) else None

-- whether the beginning of these bytes has the right mark, if there is to be one
unfoldable pub is_right : Form → List ℕ → Bool → List ℕ → Bool
is_right form mark first bytes =
    if first
    then (if has_marks form then (if nat_lt (length bytes) 17 then false else bytes_eq (take 16 (drop 1 bytes)) mark)
    else true)
    else true

-- a big-endian number of four bytes, and the bytes behind it
abbrev pub number_at : List ℕ → Option (ℕ × List ℕ)
number_at bytes = if nat_lt (length bytes) 4 then None else Some (from_be_bytes w32 (take 4 bytes), drop 4 bytes)

-- as many bytes as such a number before them says, and the bytes behind those
unfoldable pub string_at : List ℕ → Option (List ℕ × List ℕ)
string_at bytes = do
  n ← number_at bytes
  if nat_lt (length n.1) n.0 then None else Some (take n.0 n.1, drop n.0 n.1)

-- whether a record can have this request and reply: the request has its header, and the record at most 8 MiB
abbrev pub fits : List ℕ → List ℕ → Bool
fits request reply = if nat_lt (length request) 18 then false else nat_le (length request + length reply + 41) 8388608

-- the bytes behind a check value of 16 bytes at the front, if it is this one
unfoldable pub check_at : List ℕ → List ℕ → Option (List ℕ)
check_at wanted bytes =
    if nat_lt (length bytes) 16 then None else if bytes_eq (take 16 bytes) wanted then Some (drop 16 bytes) else None

-- the request of the record at the front, whatever mark and check value the record has
abbrev pub request_in : Form → List ℕ → Option (List ℕ)
request_in form bytes = do
  first ← front_at form bytes
  request ← string_at first.1
  Some request.0

-- the bytes behind the check value of a record of these, if it fits and has the right mark and check value
abbrev pub rest_at : Key → Place → List ℕ → Record → List ℕ → Option (List ℕ)
rest_at key place bytes it behind =
    if fits it.request it.reply
    then (if is_right key.form (mark_at key place.at) it.first bytes then check_at (next_check key place it) behind
    else None)
    else None

-- the record, the check value behind it, and the bytes behind that
unfoldable pub record_at : Key → Place → List ℕ → Option (Record × List ℕ × List ℕ)
record_at key place bytes = do
  first ← front_at key.form bytes
  request ← string_at first.1
  reply ← string_at request.1
  rest ← rest_at key place bytes (made first.0 request.0 reply.0) reply.1
  Some (made first.0 request.0 reply.0, next_check key place (made first.0 request.0 reply.0), rest)
