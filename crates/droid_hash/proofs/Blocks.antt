-- The hash value after a run of blocks is that of the longer message.
use Rattle.std.proofs.Common.{◌≡◌, ℕ, zero, suc, ◌+◌, ◌*◌, ◌/◌, ◌%◌, List, [], ◌∷◌, ◌++◌, fold, length, take, drop, refl, sym, ap, ◌∙◌, arith, length-append, length-drop}
use Rattle.std.proofs.lemmas.List.{append_assoc, drop-append-le, drop_all, length-take-le, take_all, take-append-drop}
use Rattle.std.specs.Simd.{first_chunks}
use Rattle.md5.specs.Md5.{hash_after, compress}
use Rattle.md5.proofs.Absorbing.{hash_after-append, hash_after_next}

-- the hash value after one more block
pub one_block : (m b : List ℕ) → length m % 64 ≡ 0 → length b ≡ 64
    → hash_after (m ++ b) (length (m ++ b) / 64) ≡ compress (hash_after m (length m / 64)) b
one_block m b whole lb =
    let q : ℕ = length m / 64 in
    let count : length (m ++ b) / 64 ≡ q + 1 = omega (arith, length-append m b) in
    let front : drop (q * 64) m ≡ [] = drop_all (q * 64) m (omega arith) in
    let tail : drop (q * 64) (m ++ b) ≡ b = drop-append-le (q * 64) m b (omega arith) ∙ rw front refl in
    rw (count, hash_after_next (m ++ b) q, hash_after-append m b q (omega arith), tail, take_all 64 b (omega arith)) refl

-- the hash value after the n whole blocks of r
pub after_run : (n : ℕ) (m r : List ℕ) → length m % 64 ≡ 0 → length r / 64 ≡ n
    → fold compress (hash_after m (length m / 64)) (first_chunks 64 n r) ≡ hash_after (m ++ r) (length (m ++ r) / 64)
after_run zero m r whole len =
    let same : length (m ++ r) / 64 ≡ length m / 64 = omega (arith, length-append m r) in
    rw same (sym (hash_after-append m r (length m / 64) (omega arith)))
after_run (suc n) m r whole len =
    let b : List ℕ = take 64 r in
    let lb : length b ≡ 64 = length-take-le 64 r (omega arith) in
    let edge : length (m ++ b) % 64 ≡ 0 = omega (arith, length-append m b) in
    let left : length (drop 64 r) / 64 ≡ n = omega (arith, length-drop 64 r) in
    let joined : (m ++ b) ++ drop 64 r ≡ m ++ r = append_assoc m b (drop 64 r) ∙ ap (λ (x : List ℕ). m ++ x) (take-append-drop 64 r) in
    ap (λ h. fold compress h (first_chunks 64 n (drop 64 r))) (sym (one_block m b whole lb))
    ∙ after_run n (m ++ b) (drop 64 r) edge left
    ∙ ap (λ (x : List ℕ). hash_after x (length x / 64)) joined

-- a block by itself
pub one_chunk : (b : List ℕ) → length b ≡ 64 → first_chunks 64 (length b / 64) b ≡ b ∷ []
one_chunk b long = rw long (ap (λ (x : List ℕ). x ∷ []) (take_all 64 b (omega arith)))
