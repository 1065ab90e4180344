-- The number of each request of a submission, by what it asks (this project's own).
use Rattle.std.specs.Prelude.{ℕ, ◌+◌, ◌-◌, ◌*◌, ◌/◌, ◌%◌, ◌^◌, ◌==◌, nat_le, nat_lt, ◌&&◌, if◌then◌else◌, Bool, List}
use Rattle.std.specs.Prelude.{◌∷◌, ◌++◌, take, Option, Some, None, unwrap_or}
use Rattle.std.specs.Int.{w64, from_be_bytes}
use Rattle.sha2.specs.Sha256.{sha256}
use Rattle.droid_frame.specs.Bodies.{request_body}
use Rattle.droid_frame.specs.Fields.{u32_bytes, u64_bytes}
use Rattle.droid_frame.specs.declared.request.Request.{Request}
use Rattle.droid_frame.specs.declared.request.Request.TheVariants.{CreateProfile, AddFolder, AddFile, Piece, Finish}
use Rattle.droid_frame.specs.declared.request.Request.TheVariants.{Abandon, Status, Export}

-- ---- packed numbers: below 2^46

-- the profile (counted from 1), the file and the index fit fields of 6, 17 and 20 bits
abbrev pub fits_fields : ℕ → ℕ → ℕ → Bool
fits_fields profile file index =
    nat_le 1 profile && nat_le profile (2 ^ 6) && nat_lt file (2 ^ 17) && nat_lt index (2 ^ 20)

-- a code of 3 bits, the profile, the file and the index, one after the other, if they fit
abbrev pub packed : ℕ → ℕ → ℕ → ℕ → Option ℕ
packed code profile file index =
    if fits_fields profile file index then Some (code * 2 ^ 43 + (profile - 1) * 2 ^ 37 + file * 2 ^ 20 + index)
    else None

-- the packed number of the export's part from this offset on, if whole parts of 2^20 bytes come before it
abbrev pub packed_part : ℕ → ℕ → Option ℕ
packed_part profile from = if from % 2 ^ 20 == 0 then packed 0 profile 0 (from / 2 ^ 20) else None

-- the packed number of a request, if it has one
abbrev pub packed_of : Request → Option ℕ
packed_of (Piece profile file index bytes) = packed 4 profile file index
packed_of (Finish profile file) = packed 5 profile file 0
packed_of (Abandon profile file) = packed 6 profile file 0
packed_of (Status profile file) = packed 7 profile file 0
packed_of (Export profile from max filter) = packed_part profile from
packed_of _ = None

-- ---- numbers by a digest: from 2^62 on

-- what a request asks, as bytes: of a new profile the submission's name, of a folder or file the attempt and the body,
-- and of every other request the fields that say its place
abbrev pub text_of : List ℕ → ℕ → Request → List ℕ
text_of name attempt (CreateProfile scan_limit match_all hash) = 1 ∷ name
text_of name attempt (AddFolder profile parent modified own_name) =
    2 ∷ (u32_bytes attempt ++ request_body 2 (AddFolder profile parent modified own_name))
text_of name attempt (AddFile profile parent modified size piece_size own_name) =
    3 ∷ (u32_bytes attempt ++ request_body 2 (AddFile profile parent modified size piece_size own_name))
text_of name attempt (Piece profile file index bytes) = 4 ∷ (u32_bytes profile ++ (u32_bytes file ++ u32_bytes index))
text_of name attempt (Finish profile file) = 5 ∷ (u32_bytes profile ++ u32_bytes file)
text_of name attempt (Abandon profile file) = 6 ∷ (u32_bytes profile ++ u32_bytes file)
text_of name attempt (Status profile file) = 7 ∷ (u32_bytes profile ++ u32_bytes file)
text_of name attempt (Export profile from max filter) = 8 ∷ (u32_bytes profile ++ u64_bytes from)

-- the first 62 bits of the SHA-256 (FIPS 180-4) of a text, as a number, the highest bit first
unfoldable pub first_bits : List ℕ → ℕ
first_bits text = from_be_bytes w64 (take 8 (sha256 text)) / 2 ^ 2

-- the number by the digest of a text
abbrev pub digest_number : List ℕ → ℕ
digest_number text = 2 ^ 62 + first_bits text

-- ---- the number of a request

-- its packed number, or the number by the digest of what it asks
abbrev pub number_of : (name : List ℕ) → (attempt : ℕ) → Request → ℕ
number_of name attempt request = unwrap_or (packed_of request) (digest_number (text_of name attempt request))
