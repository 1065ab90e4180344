-- Two requests with the same text are the same but for the options of a new profile and the bytes of a piece.
use Rattle.std.proofs.Common.{◌≡◌, ℕ, ◌≤◌, false, cond, eqb, List, [], ◌++◌, take, drop, get_or, refl, sym, ap, ◌∙◌, arith}
use Rattle.std.specs.Int.{w32, from_be_bytes}
use Rattle.std.proofs.lemmas.Nat.{from_be_bytes-to_be_bytes_4}
use Rattle.droid_frame.proofs.ByteLists.{IsBytes-nil}
use Rattle.droid_frame.proofs.RequestLaws.{spelled_once}
use Rattle.droid_frame.specs.Bodies.{HasSpelling, request_body, request_kind}
use Rattle.droid_frame.specs.Fields.{IsU32, u32_bytes}
use Rattle.droid_frame.specs.Filters.{filter_bytes}
use Rattle.droid_frame.specs.declared.hash_kind.HashKind.TheVariants as kinds
use Rattle.droid_frame.specs.declared.request.Request.{Request}
use Rattle.droid_frame.specs.declared.request.Request.TheVariants.{CreateProfile, AddFolder, AddFile, Piece, Finish, Abandon, Status, Export}
use Rattle.droid_remote.specs.Numbers.{text_of}
use Rattle.droid_remote.specs.Sharing.{IsAsked, IsSameAttempt}
use Rattle.droid_remote.specs.Submitted.{IsSubmitted, all_records}

-- the request without the bytes of a piece, and without the options of a new profile
abbrev pub without_bytes : Request → Request
without_bytes (CreateProfile scan_limit match_all hash) = CreateProfile 0 false kinds.Nothing
without_bytes (Piece profile file index bytes) = Piece profile file index []
without_bytes (AddFolder profile parent modified name) = AddFolder profile parent modified name
without_bytes (AddFile profile parent modified size piece_size name) = AddFile profile parent modified size piece_size name
without_bytes (Finish profile file) = Finish profile file
without_bytes (Abandon profile file) = Abandon profile file
without_bytes (Status profile file) = Status profile file
without_bytes (Export profile from max filter) = Export profile from max filter

pub kind_stays : (request : Request) → request_kind (without_bytes request) ≡ request_kind request
kind_stays (CreateProfile scan_limit match_all hash) = refl
kind_stays (AddFolder profile parent modified name) = refl
kind_stays (AddFile profile parent modified size piece_size name) = refl
kind_stays (Piece profile file index bytes) = refl
kind_stays (Finish profile file) = refl
kind_stays (Abandon profile file) = refl
kind_stays (Status profile file) = refl
kind_stays (Export profile from max filter) = refl

spelling_stays : (request : Request) → HasSpelling 2 request → HasSpelling 2 (without_bytes request)
spelling_stays (CreateProfile scan_limit match_all hash) fits = (omega arith, tt)
spelling_stays (AddFolder profile parent modified name) fits = fits
spelling_stays (AddFile profile parent modified size piece_size name) fits = fits
spelling_stays (Piece profile file index bytes) fits = (fits.0, fits.1, fits.2, IsBytes-nil)
spelling_stays (Finish profile file) fits = fits
spelling_stays (Abandon profile file) fits = fits
spelling_stays (Status profile file) fits = fits
spelling_stays (Export profile from max filter) fits = fits

-- a text begins with the kind
begins : (name : List ℕ) (attempt : ℕ) (request : Request) → get_or (text_of name attempt request) 0 0 ≡ request_kind request
begins name attempt (CreateProfile scan_limit match_all hash) = refl
begins name attempt (AddFolder profile parent modified own_name) = refl
begins name attempt (AddFile profile parent modified size piece_size own_name) = refl
begins name attempt (Piece profile file index bytes) = refl
begins name attempt (Finish profile file) = refl
begins name attempt (Abandon profile file) = refl
begins name attempt (Status profile file) = refl
begins name attempt (Export profile from max filter) = refl

-- the body of the request, by its kind and text
abbrev body_in : ℕ → List ℕ → List ℕ
body_in kind text =
    cond (eqb kind 1) (request_body 2 (CreateProfile 0 false kinds.Nothing))
    (cond (eqb kind 2) (drop 5 text)
    (cond (eqb kind 3) (drop 5 text)
    (cond (eqb kind 8) (drop 1 text ++ (u32_bytes 1048576 ++ filter_bytes all_records)) (drop 1 text))))

body_is : (name : List ℕ) (attempt : ℕ) (request : Request) → IsSubmitted request → body_in (request_kind request) (text_of name attempt request) ≡ request_body 2 (without_bytes request)
body_is name attempt (CreateProfile scan_limit match_all hash) submitted = refl
body_is name attempt (AddFolder profile parent modified own_name) submitted = refl
body_is name attempt (AddFile profile parent modified size piece_size own_name) submitted = refl
body_is name attempt (Piece profile file index bytes) submitted = refl
body_is name attempt (Finish profile file) submitted = refl
body_is name attempt (Abandon profile file) submitted = refl
body_is name attempt (Status profile file) submitted = refl
body_is name attempt (Export profile from max filter) submitted = rw (submitted.0, submitted.1) refl

-- the attempt, in the text of a folder or file that is added
attempt_is : (name : List ℕ) (attempt : ℕ) (request : Request) → IsU32 attempt → 2 ≤ request_kind request → request_kind request ≤ 3
    → from_be_bytes w32 (take 4 (drop 1 (text_of name attempt request))) ≡ attempt
attempt_is name attempt (CreateProfile scan_limit match_all hash) fits least most = absurd (omega arith)
attempt_is name attempt (AddFolder profile parent modified own_name) fits least most = from_be_bytes-to_be_bytes_4 attempt fits
attempt_is name attempt (AddFile profile parent modified size piece_size own_name) fits least most = from_be_bytes-to_be_bytes_4 attempt fits
attempt_is name attempt (Piece profile file index bytes) fits least most = absurd (omega arith)
attempt_is name attempt (Finish profile file) fits least most = absurd (omega arith)
attempt_is name attempt (Abandon profile file) fits least most = absurd (omega arith)
attempt_is name attempt (Status profile file) fits least most = absurd (omega arith)
attempt_is name attempt (Export profile from max filter) fits least most = absurd (omega arith)

-- both attempts are the same where that is asked
where_added : (request : Request) (attempt again : ℕ) → (2 ≤ request_kind request → request_kind request ≤ 3 → attempt ≡ again) → IsSameAttempt request attempt again
where_added (CreateProfile scan_limit match_all hash) attempt again same = tt
where_added (AddFolder profile parent modified name) attempt again same = same (omega arith) (omega arith)
where_added (AddFile profile parent modified size piece_size name) attempt again same = same (omega arith) (omega arith)
where_added (Piece profile file index bytes) attempt again same = tt
where_added (Finish profile file) attempt again same = tt
where_added (Abandon profile file) attempt again same = tt
where_added (Status profile file) attempt again same = tt
where_added (Export profile from max filter) attempt again same = tt

module _ (name : List ℕ) (attempt again : ℕ) (one other : Request) (asked : IsAsked attempt one) (also : IsAsked again other) (same : text_of name attempt one ≡ text_of name again other) where
  same_kind : request_kind one ≡ request_kind other
  same_kind = sym (begins name attempt one) ∙ (ap (λ (text : List ℕ). get_or text 0 0) same ∙ begins name again other)

  same_body : request_body 2 (without_bytes one) ≡ request_body 2 (without_bytes other)
  same_body =
      sym (body_is name attempt one asked.submitted)
      ∙ (ap (λ (kind : ℕ). body_in kind (text_of name attempt one)) same_kind ∙ (ap (body_in (request_kind other)) same ∙ body_is name again other also.submitted))

  pub same_by_text : without_bytes one ≡ without_bytes other
  same_by_text =
      spelled_once 2 (request_kind one) (request_body 2 (without_bytes one)) (without_bytes one) (without_bytes other)
      (record { version_is = refl; kind_is = sym (kind_stays one); body_is = refl; has_spelling = spelling_stays one asked.has_spelling })
      (record { version_is = refl; kind_is = same_kind ∙ sym (kind_stays other); body_is = same_body; has_spelling = spelling_stays other also.has_spelling })

  pub same_attempt : IsSameAttempt one attempt again
  same_attempt = where_added one attempt again (λ least most.
      sym (attempt_is name attempt one asked.attempt_fits least most)
      ∙ (ap (λ (text : List ℕ). from_be_bytes w32 (take 4 (drop 1 text))) same ∙ attempt_is name again other also.attempt_fits (omega (arith, same_kind, least)) (omega (arith, same_kind, most))))
