-- What it means that two requests of one submission have the same number.
use Rattle.std.specs.Prelude.{◌≡◌, ◌≢◌, ℕ, List, None}
use Rattle.droid_frame.specs.Bodies.{HasSpelling, request_kind}
use Rattle.droid_frame.specs.Fields.{IsU32}
use Rattle.droid_frame.specs.declared.request.Request.{Request}
use Rattle.droid_frame.specs.declared.request.Request.TheVariants.{AddFolder, AddFile, Piece}
use Rattle.droid_remote.specs.Numbers.{first_bits, number_of, packed_of, text_of}
use Rattle.droid_remote.specs.Submitted.{IsSubmitted}

-- a submission may ask the request, in this attempt
pub record IsAsked (attempt : ℕ) (request : Request) : Type 0 where
  pub attempt_fits : IsU32 attempt
  pub has_spelling : HasSpelling 2 request
  pub submitted : IsSubmitted request

-- if the request adds a folder or a file, both attempts are the same
abbrev pub IsSameAttempt : Request → ℕ → ℕ → Type 0
IsSameAttempt (AddFolder profile parent modified name) attempt again = attempt ≡ again
IsSameAttempt (AddFile profile parent modified size piece_size name) attempt again = attempt ≡ again
IsSameAttempt _ attempt again = Unit {0}

-- two different texts, and the first 62 bits of their SHA-256 are the same
pub record Meet (one other : List ℕ) : Type 0 where
  pub differ : one ≢ other
  pub begin_alike : first_bits one ≡ first_bits other

-- how two requests of one submission may come to have the same number
pub data SharesNumber (name : List ℕ) (attempt again : ℕ) (one other : Request) : Type 0 where
  -- they are the same request
  Same : one ≡ other → IsSameAttempt one attempt again → SharesNumber name attempt again one other
  -- both are the piece of one place
  Pieces : (profile file index : ℕ) (bytes other_bytes : List ℕ) → one ≡ Piece profile file index bytes
      → other ≡ Piece profile file index other_bytes
      → SharesNumber name attempt again one other
  -- both create the submission's profile
  Profiles : request_kind one ≡ 1 → request_kind other ≡ 1 → SharesNumber name attempt again one other
  -- neither can be packed, and their digests meet
  Digests : packed_of one ≡ None → packed_of other ≡ None → Meet (text_of name attempt one) (text_of name again other)
      → SharesNumber name attempt again one other

-- two requests of one submission have the same number only in one of these ways
abbrev pub EqualNumbersAskTheSame : Type 0
EqualNumbersAskTheSame =
    (name : List ℕ) (attempt again : ℕ) (one other : Request) → IsAsked attempt one → IsAsked again other
    → number_of name attempt one ≡ number_of name again other → SharesNumber name attempt again one other
