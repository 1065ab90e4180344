-- What stands before the identifiers of a Finished: what is read is what is spelled, and what is
-- spelled is read again.
use Rattle.std.proofs.Common.{◌≡◌, ℕ, ◌^◌, ◌<◌, ◌≤◌, false, cond, ltb, List, ◌++◌, Some, None, refl, sym, ap, subst, ◌∙◌, append_assoc, arith}
use Rattle.std.specs.Int.{w16}
use Rattle.std.proofs.lemmas.Bool.{ltb-false, le-ltb}
use Rattle.droid_frame.specs.declared.reading.replies.finished.FinishedHead.{FinishedHead}
use Rattle.droid_frame.specs.Limits.{puids_limit}
use Rattle.droid_frame.specs.Fields.{IsBytes, method_bytes, u16_bytes, truth_bytes}
use Rattle.droid_frame.specs.Reading.{◌>>=◌, number_at, truth_at, method_at}
use Rattle.droid_frame.specs.Replies.{IsSpelledHash, digest_bytes}
use Rattle.droid_frame.specs.HashFields.{digest_at}
use Rattle.droid_frame.specs.ReplyValues.{count_at, finished_head_at}
use Rattle.droid_frame.proofs.FieldLaws.{IsField, IsFront, bind_some, method_field, some_is, truth_field, u16_field, unless_some}
use Rattle.droid_frame.proofs.HashLaws.{digest_field}

-- ---- how many identifiers follow

abbrev pub IsCount : ℕ → Type 0
IsCount count = count ≤ puids_limit

count_reads : (bytes : List ℕ) (x : ℕ × List ℕ) → IsBytes bytes → count_at bytes ≡ Some x → IsFront bytes (u16_bytes x.0) x.1 × IsCount x.0
unfolding count_at
count_reads bytes x are e =
    let count = bind_some (number_at w16 bytes) (λ n. cond (ltb puids_limit n.0) None (Some n)) x e in
    let few = unless_some (ltb puids_limit count.0.0) count.0 x count.2 in
    let front = u16_field.reads bytes count.0 are count.1 in
    subst (λ (y : ℕ × List ℕ). IsFront bytes (u16_bytes y.0) y.1 × IsCount y.0) few.1 (front.0, ltb-false _ _ few.0)

count_again : (count : ℕ) (rest : List ℕ) → IsCount count → count_at (u16_bytes count ++ rest) ≡ Some (count, rest)
unfolding count_at
count_again count rest few =
    let kept : ltb puids_limit count ≡ false = le-ltb _ _ few in
    let small : count < 2 ^ 16 = omega arith in
    rw (u16_field.again count rest small, kept) refl

pub count_field : IsField count_at u16_bytes IsCount
count_field = record { reads = count_reads; again = count_again }

-- ---- all that stands before the identifiers

abbrev pub head_bytes : ℕ → FinishedHead → List ℕ
head_bytes version head = method_bytes head.method ++ (truth_bytes head.mismatch ++ (digest_bytes version head.hash ++ u16_bytes head.count))

abbrev pub HasHeadSpelling : ℕ → FinishedHead → Type 0
HasHeadSpelling version head = IsSpelledHash version head.hash × IsCount head.count

pub head_regroups : (version : ℕ) (head : FinishedHead) (rest : List ℕ) → head_bytes version head ++ rest ≡ method_bytes head.method ++ (truth_bytes head.mismatch ++ (digest_bytes version head.hash ++ (u16_bytes head.count ++ rest)))
head_regroups version head rest = simp append_assoc

head_parts : (version : ℕ) (head : FinishedHead) (bytes a b c rest : List ℕ) → bytes ≡ method_bytes head.method ++ a → a ≡ truth_bytes head.mismatch ++ b → b ≡ digest_bytes version head.hash ++ c → c ≡ u16_bytes head.count ++ rest → bytes ≡ head_bytes version head ++ rest
head_parts version head bytes a b c rest e f g h = rw (e, f, g, h) (sym (head_regroups version head rest))

head_reads : (version : ℕ) (bytes : List ℕ) (x : FinishedHead × List ℕ) → IsBytes bytes → finished_head_at version bytes ≡ Some x → IsFront bytes (head_bytes version x.0) x.1 × HasHeadSpelling version x.0
unfolding finished_head_at
head_reads version bytes x are e =
    let method = bind_some (method_at bytes) (λ m. truth_at m.1 >>= λ t. digest_at version t.1 >>= λ d. count_at d.1 >>= λ c. Some (record { method = m.0; mismatch = t.0; hash = d.0; count = c.0 }, c.1)) x e in
    let m = method.0 in
    let mismatch = bind_some (truth_at m.1) (λ t. digest_at version t.1 >>= λ d. count_at d.1 >>= λ c. Some (record { method = m.0; mismatch = t.0; hash = d.0; count = c.0 }, c.1)) x method.2 in
    let t = mismatch.0 in
    let hash = bind_some (digest_at version t.1) (λ d. count_at d.1 >>= λ c. Some (record { method = m.0; mismatch = t.0; hash = d.0; count = c.0 }, c.1)) x mismatch.2 in
    let d = hash.0 in
    let count = bind_some (count_at d.1) (λ c. Some (record { method = m.0; mismatch = t.0; hash = d.0; count = c.0 }, c.1)) x hash.2 in
    let c = count.0 in
    let m_front = method_field.reads bytes m are method.1 in
    let t_front = truth_field.reads m.1 t m_front.0.bytes_follow mismatch.1 in
    let d_front = (digest_field version).reads t.1 d t_front.0.bytes_follow hash.1 in
    let c_front = count_field.reads d.1 c d_front.0.bytes_follow count.1 in
    let head : FinishedHead = record { method = m.0; mismatch = t.0; hash = d.0; count = c.0 } in
    let joined : bytes ≡ head_bytes version head ++ c.1 = head_parts version head bytes m.1 t.1 d.1 c.1 m_front.0.parts t_front.0.parts d_front.0.parts c_front.0.parts in
    let front : IsFront bytes (head_bytes version head) c.1 = record { parts = joined; bytes_follow = c_front.0.bytes_follow } in
    subst (λ (y : FinishedHead × List ℕ). IsFront bytes (head_bytes version y.0) y.1 × HasHeadSpelling version y.0) (some_is (head, c.1) x count.2) (front, (d_front.1, c_front.1))

head_again : (version : ℕ) (head : FinishedHead) (rest : List ℕ) → HasHeadSpelling version head → finished_head_at version (head_bytes version head ++ rest) ≡ Some (head, rest)
unfolding finished_head_at
head_again version head rest fits =
    ap (finished_head_at version) (head_regroups version head rest)
    ∙ rw (method_field.again head.method (truth_bytes head.mismatch ++ (digest_bytes version head.hash ++ (u16_bytes head.count ++ rest))) tt, truth_field.again head.mismatch (digest_bytes version head.hash ++ (u16_bytes head.count ++ rest)) tt, (digest_field version).again head.hash (u16_bytes head.count ++ rest) fits.0, count_field.again head.count rest fits.1) refl

pub head_field : (version : ℕ) → IsField (finished_head_at version) (head_bytes version) (HasHeadSpelling version)
head_field version = record { reads = head_reads version; again = head_again version }
