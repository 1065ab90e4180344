-- The end of a message is its last bytes, the padding and its length.
use Rattle.std.proofs.Common.{◌≡◌, ℕ, ◌-◌, ◌*◌, ◌/◌, ◌%◌, ◌^◌, List, ◌∷◌, ◌++◌, fold, length, take, drop, replicate, refl, sym, ap, ◌∙◌, arith}
use Rattle.std.proofs.lemmas.List.{append_assoc, length-take-le, take-append-drop}
use Rattle.std.specs.Int.{w64, to_be_bytes}
use Rattle.std.specs.Simd.{first_chunks}
use Rattle.sha2.specs.Sha256.{compress, hash_after, initial_hash_256, sha256, digest_bytes, padded_message, IsAbsorbed}
use Rattle.sha2.proofs.Absorbing256.{hash_after-append}
use Rattle.droid_hash.proofs.Sha256Blocks.{after_run}

-- the digest of a message m, from the blocks of the bytes e that end it
pub digest_is : (m h b e : List ℕ) → IsAbsorbed initial_hash_256 h b m
    → e ≡ take (length m % 64) b ++ (0x80 ∷ replicate ((119 - length m % 64) % 64) 0) ++ to_be_bytes w64 (length m * 8 % 2 ^ 64)
    → digest_bytes (fold compress h (first_chunks 64 (length e / 64) e)) 8 ≡ sha256 m
unfolding sha256
digest_is m h b e held ee =
    let q : ℕ = length m / 64 in
    let front : List ℕ = take (q * 64) m in
    let size : length front ≡ q * 64 = length-take-le (q * 64) m (omega arith) in
    let blocks : length front / 64 ≡ q = omega arith in
    let parts : front ++ drop (q * 64) m ≡ m = take-append-drop (q * 64) m in
    let same : hash_after initial_hash_256 m q ≡ hash_after initial_hash_256 front q =
    ap (λ (x : List ℕ). hash_after initial_hash_256 x q) (sym parts) ∙ hash_after-append initial_hash_256 front (drop (q * 64) m) q (omega arith) in
    let start : h ≡ hash_after initial_hash_256 front (length front / 64) = held.0 ∙ same ∙ ap (hash_after initial_hash_256 front) (sym blocks) in
    let pad : List ℕ = 0x80 ∷ replicate ((119 - length m % 64) % 64) 0 in
    let last : List ℕ = to_be_bytes w64 (length m * 8 % 2 ^ 64) in
    let whole : front ++ e ≡ padded_message m =
    ap (λ (x : List ℕ). front ++ x) (ee ∙ ap (λ (x : List ℕ). x ++ pad ++ last) held.1 ∙ append_assoc (drop (q * 64) m) pad last)
    ∙ sym (append_assoc front (drop (q * 64) m) (pad ++ last)) ∙ ap (λ (x : List ℕ). x ++ (pad ++ last)) parts in
    ap (λ (v : List ℕ). digest_bytes v 8)
    (ap (λ v. fold compress v (first_chunks 64 (length e / 64) e)) start
    ∙ after_run (length e / 64) front e (omega arith) refl
    ∙ ap (λ (x : List ℕ). hash_after initial_hash_256 x (length x / 64)) whole)

-- the digest that a lane's end returns
pub lane_ends : (t u : ℕ) (h h' b e d m : List ℕ) (run : List (List ℕ)) → t ≡ length m % 2 ^ 64 → IsAbsorbed initial_hash_256 h b m → u ≡ t % 64
    → e ≡ take u b ++ (0x80 ∷ replicate ((119 - u) % 64) 0) ++ to_be_bytes w64 (t * 8 % 2 ^ 64)
    → run ≡ first_chunks 64 (length e / 64) e → h' ≡ fold compress h run → d ≡ digest_bytes h' 8 → d ≡ sha256 m
lane_ends t u h h' b e d m run et held eu ee er eh ed =
    let used : u ≡ length m % 64 = omega arith in
    let bits : t * 8 % 2 ^ 64 ≡ length m * 8 % 2 ^ 64 = omega arith in
    ed ∙ rw (eh, er) (digest_is m h b e held (rw (used, bits) at ee))
