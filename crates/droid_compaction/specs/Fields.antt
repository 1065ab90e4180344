-- The fields in the bytes of a record's frames (this project's own). A frame's header has 18 bytes: the version, the
-- kind, four bytes of the client, eight of the number, and four of the body's length.
use Rattle.std.specs.Prelude.{ℕ, ◌+◌, ◌*◌, ◌==◌, ◌||◌, if◌then◌else◌, Bool, false, nat_lt, List, length, take, drop}
use Rattle.std.specs.Prelude.{slice_index}
use Rattle.std.specs.Int.{w32, w64, from_be_bytes}

-- a big-endian number of four bytes
abbrev pub client_at : List ℕ → ℕ
client_at bytes = from_be_bytes w32 (take 4 bytes)

-- a big-endian number of eight bytes
abbrev pub number_at : List ℕ → ℕ
number_at bytes = from_be_bytes w64 (take 8 bytes)

-- the client and the number of a request, as one number
abbrev pub stamp_in : List ℕ → ℕ
stamp_in request = client_at (drop 2 request) * 18446744073709551616 + number_at (drop 6 request)

-- the profile and the file at the front of a request's body, as one number
abbrev pub file_in : List ℕ → ℕ
file_in request = number_at (drop 18 request)

-- a request of this kind about a file: its body begins with a profile and a file; neither it nor its reply is longer
-- than a frame can be
abbrev pub is_about : ℕ → List ℕ → List ℕ → Bool
is_about kind request reply =
    if nat_lt (length request) 26 then false else if nat_lt 4194386 (length request) then false
    else if nat_lt 1048658 (length reply) then false else slice_index request 1 == kind

-- a Finish or an Abandon
abbrev pub is_end : List ℕ → List ℕ → Bool
is_end request reply = is_about 5 request reply || is_about 6 request reply

-- `is_about` by the request's kind and the lengths of both
abbrev pub is_about_by : ℕ → ℕ → ℕ → ℕ → Bool
is_about_by kind own request reply =
    if nat_lt request 26 then false else if nat_lt 4194386 request then false else if nat_lt 1048658 reply then false
    else own == kind

-- `is_end` likewise
abbrev pub is_end_by : ℕ → ℕ → ℕ → Bool
is_end_by own request reply = is_about_by 5 own request reply || is_about_by 6 own request reply
