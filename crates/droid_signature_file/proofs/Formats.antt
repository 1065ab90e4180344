-- The formats of a registry hit as those of the signature file.
use Rattle.std.proofs.Common.{◌≡◌, ◌≢◌, ◌↔◌, ◌⊎◌, ℕ, zero, suc, ◌+◌, ◌<◌, ◌≤◌, List, [], ◌∷◌, ◌++◌, inl, inr, ⊎_elim, refl, sym, ap, ◌∙◌, arith}
use Rattle.std.specs.List.{AllByRecursion}
use Rattle.droid_pronom.specs.Found.{Hits, IsHit}
use Rattle.droid_pronom.specs.Registry.{AnyOf, Signed, Contents}
use Rattle.droid_pronom.specs.declared.rows.ByteSequence.{ByteSequence}
use Rattle.droid_signature_file.specs.Records.{SignatureRecord, FormatRecord, FileRecord}
use Rattle.droid_signature_file.specs.Meaning.{SignatureHits, FormatHits}
use Rattle.droid_signature_file.specs.Sequences.{combinations, AreChoicesOf}
use Rattle.droid_signature_file.specs.Rows.{StandForId, StandForIds, signatures_at, signatures_from, lists_at}
use Rattle.droid_signature_file.proofs.Combinations.{AnyOf-append, combinations_hit}

-- the signatures with one ID
id_hits : (id : ℕ) (signatures : List SignatureRecord) (lists : List (List ByteSequence)) (file : List ℕ) (scan_limit : ℕ) → StandForId id signatures lists
    → AnyOf (AllByRecursion (Hits file scan_limit)) lists ↔ AnyOf (λ it. (it.id ≡ id) × SignatureHits file scan_limit it) signatures
id_hits id [] lists file scan_limit none = (λ h. rw none at h, λ h. absurd h)
id_hits id (signature ∷ signatures) lists file scan_limit (inl (all, more, same, is, are, rest)) =
    let split = AnyOf-append (AllByRecursion (Hits file scan_limit)) (combinations all) more in
    let here = combinations_hit signature.sequences all file scan_limit are in
    let others = id_hits id signatures more file scan_limit rest in (
      λ h. ⊎_elim (λ a. inl (same, here.0 a)) (λ b. inr (others.0 b)) (split.0 (rw is at h)),
      λ h. rw is (split.1 (⊎_elim (λ a. inl (here.1 a.1)) (λ b. inr (others.1 b)) h)),
    )
id_hits id (signature ∷ signatures) lists file scan_limit (inr (differ, rest)) =
    let others = id_hits id signatures lists file scan_limit rest in (
      λ h. inr (others.0 h),
      λ h. ⊎_elim (λ a. absurd (differ a.0)) (λ b. others.1 b) h,
    )

-- the signatures of several IDs
pub ids_hit : (signatures : List SignatureRecord) (ids : List ℕ) (lists : List (List ByteSequence)) (file : List ℕ) (scan_limit : ℕ) → StandForIds signatures ids lists
    → AnyOf (AllByRecursion (Hits file scan_limit)) lists ↔ AnyOf (λ id. AnyOf (λ it. (it.id ≡ id) × SignatureHits file scan_limit it) signatures) ids
ids_hit signatures [] lists file scan_limit none = (λ h. rw none at h, λ h. absurd h)
ids_hit signatures (id ∷ ids) lists file scan_limit (own, more, is, first, rest) =
    let split = AnyOf-append (AllByRecursion (Hits file scan_limit)) own more in
    let here = id_hits id signatures own file scan_limit first in
    let others = ids_hit signatures ids more file scan_limit rest in (
      λ h. ⊎_elim (λ a. inl (here.0 a)) (λ b. inr (others.0 b)) (split.0 (rw is at h)),
      λ h. rw is (split.1 (⊎_elim (λ a. inl (here.1 a)) (λ b. inr (others.1 b)) h)),
    )

-- the signatures of one place
own_hits : (H : ByteSequence → Type 0) (place k : ℕ) (lists : List (List ByteSequence))
    → AnyOf (λ signature. (signature.place ≡ k) × AllByRecursion H signature.sequences) (signatures_at place lists) ↔ ((place ≡ k) × AnyOf (AllByRecursion H) lists)
own_hits H place k [] = (λ h. absurd h, λ h. absurd h.1)
own_hits H place k (sequences ∷ lists) =
    let more = own_hits H place k lists in (
      λ h. ⊎_elim (λ a. (a.0, inl a.1)) (λ b. let w = more.0 b in (w.0, inr w.1)) h,
      λ (same, h). ⊎_elim (λ a. inl (same, a)) (λ b. inr (more.1 (same, b))) h,
    )

-- no signature of a later place is one of an earlier one
none_before : (H : ByteSequence → Type 0) (start k : ℕ) (all : List (List (List ByteSequence))) → k < start
    → AnyOf (λ signature. (signature.place ≡ k) × AllByRecursion H signature.sequences) (signatures_from start all) → ⊥
none_before H start k [] below h = h
none_before H start k (lists ∷ all) below h =
    ⊎_elim (λ a. let e = ((own_hits H start k lists).0 a).0 in absurd (omega arith)) (λ b. none_before H (suc start) k all (omega arith) b)
    ((AnyOf-append (λ (signature : Signed). (signature.place ≡ k) × AllByRecursion H signature.sequences) (signatures_at start lists) (signatures_from (suc start) all)).0 h)

-- the signatures of the format at a place
place_hits : (H : ByteSequence → Type 0) (start place : ℕ) (all : List (List (List ByteSequence)))
    → AnyOf (λ signature. (signature.place ≡ start + place) × AllByRecursion H signature.sequences) (signatures_from start all) ↔ AnyOf (AllByRecursion H) (lists_at place all)
place_hits H start place [] = (λ h. absurd h, λ h. absurd h)
place_hits H start zero (lists ∷ all) =
    let split = AnyOf-append (λ (signature : Signed). (signature.place ≡ start + 0) × AllByRecursion H signature.sequences) (signatures_at start lists) (signatures_from (suc start) all) in
    let own = own_hits H start (start + 0) lists in (
      λ h. ⊎_elim (λ a. (own.0 a).1) (λ b. absurd (none_before H (suc start) (start + 0) all (omega arith) b)) (split.0 h),
      λ h. split.1 (inl (own.1 (omega arith, h))),
    )
place_hits H start (suc place) (lists ∷ all) =
    let split = AnyOf-append (λ (signature : Signed). (signature.place ≡ start + suc place) × AllByRecursion H signature.sequences) (signatures_at start lists) (signatures_from (suc start) all) in
    let own = own_hits H start (start + suc place) lists in
    let next : suc start + place ≡ start + suc place = omega arith in
    let others = place_hits H (suc start) place all in (
      λ h. ⊎_elim (λ a. let e = (own.0 a).0 in absurd (omega arith)) (λ b. others.0 (rw next b)) (split.0 h),
      λ h. split.1 (inr (rw (sym next) (others.1 h))),
    )

-- a format of a registry whose signatures are those
pub format_hits : (records : FileRecord) (format : FormatRecord) (registry : Contents) (all : List (List (List ByteSequence))) (place : ℕ) (file : List ℕ) (scan_limit : ℕ)
    → registry.signatures ≡ signatures_from 0 all → StandForIds records.signatures format.signatures (lists_at place all)
    → IsHit (Hits file scan_limit) registry place ↔ FormatHits records file scan_limit format
format_hits records format registry all place file scan_limit is stand =
    let there = place_hits (Hits file scan_limit) 0 place all in
    let here = ids_hit records.signatures format.signatures (lists_at place all) file scan_limit stand in
    let counted : 0 + place ≡ place = omega arith in (
      λ h. here.0 (there.0 (rw counted (rw is at h))),
      λ h. rw is (rw counted at (there.1 (here.1 h))),
    )
