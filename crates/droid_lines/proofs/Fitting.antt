-- The test of what fits into a frame passes exactly what fits.
use Rattle.std.proofs.Common.{◌≡◌, ℕ, ◌≤◌, Bool, true, false, cond, eqb, ◌&&◌, List, [], ◌∷◌, length, refl, inl, inr, arith}
use Rattle.std.specs.Prelude.{nat_le, MatchBool}
use Rattle.std.specs.List.{list_all, AllByRecursion}
use Rattle.std.proofs.lemmas.Bool.Decides.{leb_tells}
use Rattle.droid_frame.specs.declared.criterion.Criterion.{Criterion}
use Rattle.droid_frame.specs.declared.criterion.Criterion.TheVariants.{MethodIs, PuidIn, ExtIn, MismatchIs, SizeAtLeast, SizeAtMost, KindIs}
use Rattle.droid_frame.specs.declared.hash_kind.HashKind.{HashKind}
use Rattle.droid_frame.specs.declared.hash_kind.HashKind.TheVariants as kinds
use Rattle.droid_frame.specs.declared.request.Request.{Request}
use Rattle.droid_frame.specs.declared.request.Request.TheVariants.{CreateProfile, AddFolder, AddFile, Piece, Finish, Abandon, Status, Export}
use Rattle.droid_frame.specs.Bodies.{request_body, ListsFit, HashFits, Fits}
use Rattle.droid_frame.specs.Filters.{ListFits, CriterionFits}
use Rattle.droid_frame.specs.Limits.{body_limit}
use Rattle.droid_frame.specs.Versions.{is_version}
use Rattle.droid_lines.specs.Lines.{list_fits, criterion_fits, lists_fit, is_md5, hash_fits, body_fits, request_fits}

-- ---- tests

both : (a b : Bool) → a ≡ true → b ≡ true → (a && b) ≡ true
both true b p q = q
both false b p q = absurd cc

both_are : (a b : Bool) → (a && b) ≡ true → (a ≡ true) × (b ≡ true)
both_are true b e = (refl, e)
both_are false b e = absurd cc

at_most : (a b : ℕ) → a ≤ b → nat_le a b ≡ true
at_most a b short =
    elim (leb_tells a b) [
      | inl it ↦ it.0
      | inr it ↦ absurd (omega (arith, it.1, short))
    ]

is_at_most : (a b : ℕ) → nat_le a b ≡ true → a ≤ b
is_at_most a b e =
    elim (leb_tells a b) [
      | inl it ↦ it.1
      | inr it ↦ absurd cc
    ]

all_pass : {X : Type 0} (P : X → Type 0) (p : X → Bool) → ((x : X) → P x → p x ≡ true) → (xs : List X) → AllByRecursion P xs → list_all p xs ≡ true
all_pass P p passes [] all = refl
all_pass P p passes (x ∷ xs) all = both (p x) (list_all p xs) (passes x all.0) (all_pass P p passes xs all.1)

all_are : {X : Type 0} (P : X → Type 0) (p : X → Bool) → ((x : X) → p x ≡ true → P x) → (xs : List X) → list_all p xs ≡ true → AllByRecursion P xs
all_are P p are [] all = tt
all_are P p are (x ∷ xs) all =
    let parts = both_are (p x) (list_all p xs) all in
    (are x parts.0, all_are P p are xs parts.1)

-- ---- lists

list_passes : (texts : List (List ℕ)) → ListFits texts → list_fits texts ≡ true
list_passes texts fit =
    both (nat_le (length texts) 255) (list_all (λ text. nat_le (length text) 255) texts) (at_most (length texts) 255 fit.few)
    (all_pass (λ text. length text ≤ 255) (λ text. nat_le (length text) 255) (λ text short. at_most (length text) 255 short) texts fit.short)

list_is : (texts : List (List ℕ)) → list_fits texts ≡ true → ListFits texts
list_is texts e =
    let parts = both_are (nat_le (length texts) 255) (list_all (λ text. nat_le (length text) 255) texts) e in
    record {
      few = is_at_most (length texts) 255 parts.0;
      short = all_are (λ text. length text ≤ 255) (λ text. nat_le (length text) 255) (λ text e. is_at_most (length text) 255 e) texts parts.1;
    }

criterion_passes : (criterion : Criterion) → CriterionFits criterion → criterion_fits criterion ≡ true
criterion_passes (MethodIs method) fit = refl
criterion_passes (PuidIn texts) fit = list_passes texts fit
criterion_passes (ExtIn texts) fit = list_passes texts fit
criterion_passes (MismatchIs mismatch) fit = refl
criterion_passes (SizeAtLeast size) fit = refl
criterion_passes (SizeAtMost size) fit = refl
criterion_passes (KindIs kind) fit = refl

criterion_is : (criterion : Criterion) → criterion_fits criterion ≡ true → CriterionFits criterion
criterion_is (MethodIs method) e = tt
criterion_is (PuidIn texts) e = list_is texts e
criterion_is (ExtIn texts) e = list_is texts e
criterion_is (MismatchIs mismatch) e = tt
criterion_is (SizeAtLeast size) e = tt
criterion_is (SizeAtMost size) e = tt
criterion_is (KindIs kind) e = tt

lists_pass : (request : Request) → ListsFit request → lists_fit request ≡ true
lists_pass (CreateProfile scan_limit match_all hash) fit = refl
lists_pass (AddFolder profile parent modified name) fit = refl
lists_pass (AddFile profile parent modified size piece_size name) fit = refl
lists_pass (Piece profile file index bytes) fit = refl
lists_pass (Finish profile file) fit = refl
lists_pass (Abandon profile file) fit = refl
lists_pass (Status profile file) fit = refl
lists_pass (Export profile from max filter) fit =
    both (nat_le (length filter.criteria) 255) (list_all criterion_fits filter.criteria) (at_most (length filter.criteria) 255 fit.few)
    (all_pass CriterionFits criterion_fits criterion_passes filter.criteria fit.each)

lists_are : (request : Request) → lists_fit request ≡ true → ListsFit request
lists_are (CreateProfile scan_limit match_all hash) e = tt
lists_are (AddFolder profile parent modified name) e = tt
lists_are (AddFile profile parent modified size piece_size name) e = tt
lists_are (Piece profile file index bytes) e = tt
lists_are (Finish profile file) e = tt
lists_are (Abandon profile file) e = tt
lists_are (Status profile file) e = tt
lists_are (Export profile from max filter) e =
    let parts = both_are (nat_le (length filter.criteria) 255) (list_all criterion_fits filter.criteria) e in
    record {
      few = is_at_most (length filter.criteria) 255 parts.0;
      each = all_are CriterionFits criterion_fits criterion_is filter.criteria parts.1;
    }

-- ---- the hash

md5_passes : (hash : HashKind) → hash ≡ kinds.Md5 → is_md5 hash ≡ true
md5_passes kinds.Nothing is = absurd cc
md5_passes kinds.Md5 is = refl
md5_passes kinds.Sha256 is = absurd cc

md5_is : (hash : HashKind) → is_md5 hash ≡ true → hash ≡ kinds.Md5
md5_is kinds.Nothing e = absurd cc
md5_is kinds.Md5 e = refl
md5_is kinds.Sha256 e = absurd cc

reports_passes : (first : Bool) (hash : HashKind) → MatchBool first (hash ≡ kinds.Md5) (Unit {0}) → cond first (is_md5 hash) true ≡ true
reports_passes true hash reports = md5_passes hash reports
reports_passes false hash reports = refl

reports_is : (first : Bool) (hash : HashKind) → cond first (is_md5 hash) true ≡ true → MatchBool first (hash ≡ kinds.Md5) (Unit {0})
reports_is true hash e = md5_is hash e
reports_is false hash e = tt

hash_passes : (version : ℕ) (request : Request) → HashFits version request → hash_fits version request ≡ true
hash_passes version (CreateProfile scan_limit match_all hash) fit = reports_passes (eqb version 1) hash fit
hash_passes version (AddFolder profile parent modified name) fit = refl
hash_passes version (AddFile profile parent modified size piece_size name) fit = refl
hash_passes version (Piece profile file index bytes) fit = refl
hash_passes version (Finish profile file) fit = refl
hash_passes version (Abandon profile file) fit = refl
hash_passes version (Status profile file) fit = refl
hash_passes version (Export profile from max filter) fit = refl

hash_is : (version : ℕ) (request : Request) → hash_fits version request ≡ true → HashFits version request
hash_is version (CreateProfile scan_limit match_all hash) e = reports_is (eqb version 1) hash e
hash_is version (AddFolder profile parent modified name) e = tt
hash_is version (AddFile profile parent modified size piece_size name) e = tt
hash_is version (Piece profile file index bytes) e = tt
hash_is version (Finish profile file) e = tt
hash_is version (Abandon profile file) e = tt
hash_is version (Status profile file) e = tt
hash_is version (Export profile from max filter) e = tt

-- ---- requests

passes : (version : ℕ) (request : Request) → Fits version request → request_fits version request ≡ true
unfolding request_fits
passes version request fit =
    let body = request_body version request in
    both (is_version version) (body_fits version body && (lists_fit request && hash_fits version request)) fit.version_is
    (both (body_fits version body) (lists_fit request && hash_fits version request) (at_most (length body) (body_limit version) fit.body)
    (both (lists_fit request) (hash_fits version request) (lists_pass request fit.lists) (hash_passes version request fit.hash)))

fits : (version : ℕ) (request : Request) → request_fits version request ≡ true → Fits version request
unfolding request_fits
fits version request e =
    let body = request_body version request in
    let parts = both_are (is_version version) (body_fits version body && (lists_fit request && hash_fits version request)) e in
    let more = both_are (body_fits version body) (lists_fit request && hash_fits version request) parts.1 in
    let last = both_are (lists_fit request) (hash_fits version request) more.1 in
    record {
      version_is = parts.0;
      body = is_at_most (length body) (body_limit version) more.0;
      lists = lists_are request last.0;
      hash = hash_is version request last.1;
    }

same : (a b : Bool) → (a ≡ true → b ≡ true) → (b ≡ true → a ≡ true) → a ≡ b
same true b to from = let e : b ≡ true = to refl in rw e refl
same false true to from = from refl
same false false to from = refl

-- what decides whether a request fits is the test
pub test_is : (reported : Bool) (version : ℕ) (request : Request) → (reported ≡ true → Fits version request) → (Fits version request → reported ≡ true) → reported ≡ request_fits version request
test_is reported version request to from = same reported (request_fits version request) (λ e. passes version request (to e)) (λ e. from (fits version request e))
