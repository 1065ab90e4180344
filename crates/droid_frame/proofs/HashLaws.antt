-- The kind of a hash and its digest: what is read is what is spelled, and what is spelled is read again.
use Rattle.std.proofs.Common.{◌≡◌, ℕ, zero, suc, ◌≤◌, Bool, true, false, cond, eqb, ltb, List, [], ◌∷◌, ◌++◌, length, take, drop, Option, Some, refl, sym, ap, subst, ◌∙◌, append_assoc, arith}
use Rattle.std.specs.Prelude.{MatchBool}
use Rattle.std.proofs.lemmas.Bool.{ltb-false, le-ltb}
use Rattle.std.proofs.lemmas.List.{take_at, drop_at, take-append-drop, length-append, length-take}
use Rattle.droid_frame.specs.declared.hash_kind.HashKind.{HashKind}
use Rattle.droid_frame.specs.declared.hash_kind.HashKind.TheVariants as kinds
use Rattle.droid_frame.specs.declared.hash_value.HashValue.{HashValue}
use Rattle.droid_frame.specs.declared.hash_value.HashValue.TheVariants as values
use Rattle.droid_frame.specs.Fields.{IsBytes}
use Rattle.droid_frame.specs.Hashes.{IsHashValue, CarriesHash, hash_bytes, hash_field, hash_kind_bytes, hash_value_kind}
use Rattle.droid_frame.specs.Replies.{IsSpelledHash, digest_bytes}
use Rattle.droid_frame.specs.HashFields.{hash_kind_at, carried_kind_at, run_at, hash_value_at, digest_at}
use Rattle.droid_frame.specs.Reading.{◌>>=◌}
use Rattle.droid_frame.proofs.FieldLaws.{IsBytes-drop, IsBytes-take, IsBytes-rest, IsField, IsFront, bind_some, some_is, unless_some}
use Rattle.droid_frame.proofs.SequenceLaws.{front_then}

-- ---- the kind

abbrev LeavesKind : List ℕ → HashKind × List ℕ → Type 0
LeavesKind bytes x = IsFront bytes (hash_kind_bytes x.0) x.1

kind_reads : (bytes : List ℕ) (x : HashKind × List ℕ) → IsBytes bytes → hash_kind_at bytes ≡ Some x → LeavesKind bytes x
unfolding hash_kind_at
kind_reads [] x are e = absurd cc
kind_reads (zero ∷ bytes) x are e =
    subst (LeavesKind (0 ∷ bytes)) (some_is (kinds.Nothing, bytes) x e) (record { parts = refl; bytes_follow = IsBytes-rest 0 bytes are })
kind_reads (suc zero ∷ bytes) x are e =
    subst (LeavesKind (1 ∷ bytes)) (some_is (kinds.Md5, bytes) x e) (record { parts = refl; bytes_follow = IsBytes-rest 1 bytes are })
kind_reads (suc (suc zero) ∷ bytes) x are e =
    subst (LeavesKind (2 ∷ bytes)) (some_is (kinds.Sha256, bytes) x e) (record { parts = refl; bytes_follow = IsBytes-rest 2 bytes are })
kind_reads (suc (suc (suc b)) ∷ bytes) x are e = absurd cc

kind_again : (kind : HashKind) (rest : List ℕ) → hash_kind_at (hash_kind_bytes kind ++ rest) ≡ Some (kind, rest)
unfolding hash_kind_at
kind_again kinds.Nothing rest = refl
kind_again kinds.Md5 rest = refl
kind_again kinds.Sha256 rest = refl

-- ---- the same where the version has a field for it

abbrev at_where : Bool → List ℕ → Option (HashKind × List ℕ)
at_where first bytes = cond first (Some (kinds.Md5, bytes)) (hash_kind_at bytes)

abbrev bytes_where : Bool → HashKind → List ℕ
bytes_where first kind = cond first [] (hash_kind_bytes kind)

abbrev reports_where : Bool → HashKind → Type 0
reports_where first kind = MatchBool first (kind ≡ kinds.Md5) (Unit {0})

abbrev LeavesReported : Bool → List ℕ → HashKind × List ℕ → Type 0
LeavesReported first bytes x = IsFront bytes (bytes_where first x.0) x.1 × reports_where first x.0

reads_where : (first : Bool) (bytes : List ℕ) (x : HashKind × List ℕ) → IsBytes bytes → at_where first bytes ≡ Some x → LeavesReported first bytes x
reads_where true bytes x are e =
    subst (LeavesReported true bytes) (some_is (kinds.Md5, bytes) x e) (record { parts = refl; bytes_follow = are }, refl)
reads_where false bytes x are e = (kind_reads bytes x are e, tt)

again_where : (first : Bool) (kind : HashKind) (rest : List ℕ) → reports_where first kind → at_where first (bytes_where first kind ++ rest) ≡ Some (kind, rest)
again_where true kind rest reports = ap (λ (k : HashKind). Some (k, rest)) (sym reports)
again_where false kind rest reports = kind_again kind rest

reported_reads : (version : ℕ) (bytes : List ℕ) (x : HashKind × List ℕ) → IsBytes bytes → carried_kind_at version bytes ≡ Some x → IsFront bytes (hash_field version x.0) x.1 × CarriesHash version x.0
unfolding carried_kind_at
reported_reads version bytes x are e = reads_where (eqb version 1) bytes x are e

reported_again : (version : ℕ) (kind : HashKind) (rest : List ℕ) → CarriesHash version kind → carried_kind_at version (hash_field version kind ++ rest) ≡ Some (kind, rest)
unfolding carried_kind_at
reported_again version kind rest reports = again_where (eqb version 1) kind rest reports

pub reported_kind_field : (version : ℕ) → IsField (carried_kind_at version) (hash_field version) (CarriesHash version)
reported_kind_field version = record { reads = reported_reads version; again = reported_again version }

-- ---- a run of bytes

abbrev itself : List ℕ → List ℕ
itself run = run

abbrev IsRun : ℕ → List ℕ → Type 0
IsRun count run = (length run ≡ count) × IsBytes run

run_reads : (count : ℕ) (bytes : List ℕ) (x : List ℕ × List ℕ) → IsBytes bytes → run_at count bytes ≡ Some x → IsFront bytes (itself x.0) x.1 × IsRun count x.0
unfolding run_at
run_reads count bytes x are e =
    let long = unless_some (ltb (length bytes) count) (take count bytes, drop count bytes) x e in
    let enough : count ≤ length bytes = ltb-false _ _ long.0 in
    let run : IsRun count (take count bytes) = (omega (arith, length-take count bytes), IsBytes-take count bytes are) in
    let front : IsFront bytes (take count bytes) (drop count bytes) = record { parts = sym (take-append-drop count bytes); bytes_follow = IsBytes-drop count bytes are } in
    subst (λ (y : List ℕ × List ℕ). IsFront bytes (itself y.0) y.1 × IsRun count y.0) long.1 (front, run)

run_again : (count : ℕ) (run rest : List ℕ) → IsRun count run → run_at count (itself run ++ rest) ≡ Some (run, rest)
unfolding run_at
run_again count run rest is =
    let long : ltb (length (run ++ rest)) count ≡ false = le-ltb _ _ (omega (arith, is.0, length-append run rest)) in
    rw (long, take_at run rest count is.0, drop_at run rest count is.0) refl

-- ---- the digest of a kind

record LeavesValue (kind : HashKind) (bytes : List ℕ) (x : HashValue × List ℕ) : Type 0 where
  pub front : IsFront bytes (hash_bytes x.0) x.1
  pub of_kind : hash_value_kind x.0 ≡ kind
  pub is_value : IsHashValue x.0

value_reads : (kind : HashKind) (bytes : List ℕ) (x : HashValue × List ℕ) → IsBytes bytes → hash_value_at kind bytes ≡ Some x → LeavesValue kind bytes x
unfolding hash_value_at
value_reads kinds.Nothing bytes x are e =
    subst (LeavesValue kinds.Nothing bytes) (some_is (values.Nothing, bytes) x e) (record { front = record { parts = refl; bytes_follow = are }; of_kind = refl; is_value = tt })
value_reads kinds.Md5 bytes x are e =
    let run = bind_some (run_at 16 bytes) (λ r. Some (values.Md5 r.0, r.1)) x e in
    let read = run_reads 16 bytes run.0 are run.1 in
    subst (LeavesValue kinds.Md5 bytes) (some_is (values.Md5 run.0.0, run.0.1) x run.2) (record { front = read.0; of_kind = refl; is_value = read.1 })
value_reads kinds.Sha256 bytes x are e =
    let run = bind_some (run_at 32 bytes) (λ r. Some (values.Sha256 r.0, r.1)) x e in
    let read = run_reads 32 bytes run.0 are run.1 in
    subst (LeavesValue kinds.Sha256 bytes) (some_is (values.Sha256 run.0.0, run.0.1) x run.2) (record { front = read.0; of_kind = refl; is_value = read.1 })

value_again : (value : HashValue) (rest : List ℕ) → IsHashValue value → hash_value_at (hash_value_kind value) (hash_bytes value ++ rest) ≡ Some (value, rest)
unfolding hash_value_at
value_again values.Nothing rest is = refl
value_again (values.Md5 digest) rest is = rw (run_again 16 digest rest is) refl
value_again (values.Sha256 digest) rest is = rw (run_again 32 digest rest is) refl

-- ---- both

abbrev LeavesDigest : ℕ → List ℕ → HashValue × List ℕ → Type 0
LeavesDigest version bytes x = IsFront bytes (digest_bytes version x.0) x.1 × IsSpelledHash version x.0

digest_reads : (version : ℕ) (bytes : List ℕ) (x : HashValue × List ℕ) → IsBytes bytes → digest_at version bytes ≡ Some x → LeavesDigest version bytes x
unfolding digest_at
digest_reads version bytes x are e =
    let kind = bind_some (carried_kind_at version bytes) (λ k. hash_value_at k.0 k.1) x e in
    let k = kind.0 in
    let reported = reported_reads version bytes k are kind.1 in
    let value = value_reads k.0 k.1 x reported.0.bytes_follow kind.2 in
    let of_kind : k.0 ≡ hash_value_kind x.0 = sym value.of_kind in
    let front : IsFront bytes (hash_field version (hash_value_kind x.0)) k.1 = subst (λ (one : HashKind). IsFront bytes (hash_field version one) k.1) of_kind reported.0 in
    (front_then bytes (hash_field version (hash_value_kind x.0)) k.1 (hash_bytes x.0) x.1 front value.front, (subst (CarriesHash version) of_kind reported.1, value.is_value))

digest_again : (version : ℕ) (value : HashValue) (rest : List ℕ) → IsSpelledHash version value → digest_at version (digest_bytes version value ++ rest) ≡ Some (value, rest)
unfolding digest_at
digest_again version value rest is =
    let field = hash_field version (hash_value_kind value) in
    let reported : carried_kind_at version ((field ++ hash_bytes value) ++ rest) ≡ Some (hash_value_kind value, hash_bytes value ++ rest) =
    ap (carried_kind_at version) (append_assoc field (hash_bytes value) rest) ∙ reported_again version (hash_value_kind value) (hash_bytes value ++ rest) is.0 in
    ap (λ (o : Option (HashKind × List ℕ)). o >>= λ k. hash_value_at k.0 k.1) reported ∙ value_again value rest is.1

pub digest_field : (version : ℕ) → IsField (digest_at version) (digest_bytes version) (IsSpelledHash version)
digest_field version = record { reads = digest_reads version; again = digest_again version }
