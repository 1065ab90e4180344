-- A body that spells a request of a submission passes the tests, and has the request's number.
use Rattle.std.proofs.Common.{◌≡◌, ℕ, ◌≤◌, Bool, true, false, leb, List, ◌∷◌, ◌++◌, length, drop, refl, ap, ◌∙◌, arith}
use Rattle.std.specs.Prelude.{unwrap_or}
use Rattle.std.specs.Str.{IsUtf8, is_utf8}
use Rattle.std.proofs.lemmas.Bool.{and_from, le-leb}
use Rattle.std.proofs.lemmas.Nat.{from_be_bytes-to_be_bytes_4, from_be_bytes-to_be_bytes_8}
use Rattle.std.proofs.lemmas.Str.{is_utf8-from_IsUtf8}
use Rattle.droid_frame.specs.Bodies.{HasSpelling, SpellsRequest, request_body, request_kind}
use Rattle.droid_frame.specs.Fields.{truth_bytes, u32_bytes, u64_bytes}
use Rattle.droid_frame.specs.Filters.{filter_bytes}
use Rattle.droid_frame.specs.Hashes.{hash_kind_bytes}
use Rattle.droid_frame.specs.declared.hash_kind.HashKind.{HashKind}
use Rattle.droid_frame.specs.declared.hash_kind.HashKind.TheVariants as kinds
use Rattle.droid_frame.specs.declared.request.Request.{Request}
use Rattle.droid_frame.specs.declared.request.Request.TheVariants.{CreateProfile, AddFolder, AddFile, Piece, Finish, Abandon, Status, Export}
use Rattle.droid_remote.specs.BodyNumbers.{number_by}
use Rattle.droid_remote.specs.BodyTests.{is_node, is_part, is_profile, is_submitted}
use Rattle.droid_remote.specs.Numbers.{digest_number, number_of, packed, packed_part}
use Rattle.droid_remote.specs.Submitted.{IsSubmitted, all_records}

-- ---- the tests

profile_passes : (scan_limit : ℕ) (match_all : Bool) (hash : HashKind) → is_profile (u32_bytes scan_limit ++ (truth_bytes match_all ++ hash_kind_bytes hash)) ≡ true
profile_passes scan_limit false kinds.Nothing = refl
profile_passes scan_limit false kinds.Md5 = refl
profile_passes scan_limit false kinds.Sha256 = refl
profile_passes scan_limit true kinds.Nothing = refl
profile_passes scan_limit true kinds.Md5 = refl
profile_passes scan_limit true kinds.Sha256 = refl

node_passes : (at : ℕ) (body name : List ℕ) → at ≤ length body → drop at body ≡ name → IsUtf8 name → is_node at body ≡ true
node_passes at body name long follows utf8 =
    and_from (leb at (length body)) (is_utf8 (drop at body)) (le-leb at (length body) long) (rw follows (is_utf8-from_IsUtf8 name utf8))

part_passes : (profile from : ℕ) → is_part (u32_bytes profile ++ (u64_bytes from ++ (u32_bytes 1048576 ++ filter_bytes all_records))) ≡ true
part_passes profile from = refl

passes : (request : Request) → HasSpelling 2 request → IsSubmitted request → is_submitted (request_kind request) (request_body 2 request) ≡ true
passes (CreateProfile scan_limit match_all hash) fits submitted = profile_passes scan_limit match_all hash
passes (AddFolder profile parent modified name) fits submitted = node_passes 16 (request_body 2 (AddFolder profile parent modified name)) name (omega arith) refl fits.3
passes (AddFile profile parent modified size piece_size name) fits submitted =
    node_passes 28 (request_body 2 (AddFile profile parent modified size piece_size name)) name (omega arith) refl fits.5
passes (Piece profile file index bytes) fits submitted = le-leb 12 (length (request_body 2 (Piece profile file index bytes))) (omega arith)
passes (Finish profile file) fits submitted = refl
passes (Abandon profile file) fits submitted = refl
passes (Status profile file) fits submitted = refl
passes (Export profile from max filter) fits submitted = rw (submitted.0, submitted.1) (part_passes profile from)

pub spelled_passes : (kind : ℕ) (body : List ℕ) (request : Request) → SpellsRequest 2 kind body request → IsSubmitted request → is_submitted kind body ≡ true
spelled_passes kind body request spelled submitted = rw (spelled.kind_is, spelled.body_is) (passes request spelled.has_spelling submitted)

-- ---- the numbers

same_packed : (code : ℕ) (text : List ℕ) {a b c profile file index : ℕ} → a ≡ profile → b ≡ file → c ≡ index
    → unwrap_or (packed code a b c) (digest_number text) ≡ unwrap_or (packed code profile file index) (digest_number text)
same_packed code text {a} {b} {c} {profile} {file} {index} e f g =
    ap (λ (n : ℕ). unwrap_or (packed code n b c) (digest_number text)) e
    ∙ (ap (λ (n : ℕ). unwrap_or (packed code profile n c) (digest_number text)) f ∙ ap (λ (n : ℕ). unwrap_or (packed code profile file n) (digest_number text)) g)

same_part : (text : List ℕ) {a b profile from : ℕ} → a ≡ profile → b ≡ from
    → unwrap_or (packed_part a b) (digest_number text) ≡ unwrap_or (packed_part profile from) (digest_number text)
same_part text {a} {b} {profile} {from} e f =
    ap (λ (n : ℕ). unwrap_or (packed_part n b) (digest_number text)) e ∙ ap (λ (n : ℕ). unwrap_or (packed_part profile n) (digest_number text)) f

numbered : (name : List ℕ) (attempt : ℕ) (request : Request) → HasSpelling 2 request → number_by name attempt (request_kind request) (request_body 2 request) ≡ number_of name attempt request
numbered name attempt (CreateProfile scan_limit match_all hash) fits = refl
numbered name attempt (AddFolder profile parent modified own_name) fits = refl
numbered name attempt (AddFile profile parent modified size piece_size own_name) fits = refl
numbered name attempt (Piece profile file index bytes) fits =
    same_packed 4 (4 ∷ (u32_bytes profile ++ (u32_bytes file ++ u32_bytes index))) (from_be_bytes-to_be_bytes_4 profile fits.0) (from_be_bytes-to_be_bytes_4 file fits.1) (from_be_bytes-to_be_bytes_4 index fits.2)
numbered name attempt (Finish profile file) fits = same_packed 5 (5 ∷ (u32_bytes profile ++ u32_bytes file)) {c = 0} (from_be_bytes-to_be_bytes_4 profile fits.0) (from_be_bytes-to_be_bytes_4 file fits.1) refl
numbered name attempt (Abandon profile file) fits = same_packed 6 (6 ∷ (u32_bytes profile ++ u32_bytes file)) {c = 0} (from_be_bytes-to_be_bytes_4 profile fits.0) (from_be_bytes-to_be_bytes_4 file fits.1) refl
numbered name attempt (Status profile file) fits = same_packed 7 (7 ∷ (u32_bytes profile ++ u32_bytes file)) {c = 0} (from_be_bytes-to_be_bytes_4 profile fits.0) (from_be_bytes-to_be_bytes_4 file fits.1) refl
numbered name attempt (Export profile from max filter) fits =
    same_part (8 ∷ (u32_bytes profile ++ u64_bytes from)) (from_be_bytes-to_be_bytes_4 profile fits.0) (from_be_bytes-to_be_bytes_8 from fits.1)

pub spelled_is_numbered : (name : List ℕ) (attempt kind : ℕ) (body : List ℕ) (request : Request) → SpellsRequest 2 kind body request → number_by name attempt kind body ≡ number_of name attempt request
spelled_is_numbered name attempt kind body request spelled = rw (spelled.kind_is, spelled.body_is) (numbered name attempt request spelled.has_spelling)
