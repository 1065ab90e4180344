-- What a lane holds after a piece.
use Rattle.std.proofs.Common.{◌≡◌, ◌≢◌, ℕ, ◌+◌, ◌*◌, ◌/◌, ◌%◌, ◌^◌, ◌<◌, ◌≤◌, List, [], ◌∷◌, ◌++◌, fold, length, take, drop, inl, inr, refl, sym, ap, subst, ◌∙◌, arith, length-append, length-drop}
use Rattle.std.proofs.lemmas.Bool.{cases_lt}
use Rattle.std.proofs.lemmas.List.{append_assoc, drop-drop, drop_all, drop_at, length-take-le, take_all, take-append-drop, take_at}
use Rattle.std.specs.Simd.{first_chunks}
use Rattle.md5.specs.Md5.{IsAbsorbed, compress, hash_after}
use Rattle.md5.proofs.Absorbing.{IsAbsorbed_fill, IsAbsorbed_short}
use Rattle.droid_hash.specs.Tails.{joining, IsJoined}
use Rattle.droid_hash.proofs.Blocks.{after_run}

-- bytes after a message of whole blocks: their whole blocks go into the hash value, and the rest begins the tail
pub from_edge : (m r h x : List ℕ) → length m % 64 ≡ 0 → h ≡ hash_after m (length m / 64)
    → IsAbsorbed (fold compress h (first_chunks 64 (length r / 64) r)) (drop (length r / 64 * 64) r ++ x) (m ++ r)
from_edge m r h x whole eh =
    let k : ℕ = length r / 64 * 64 in
    let last : List ℕ = drop k r in
    let len : length (m ++ r) ≡ length m + length r = length-append m r in
    let short : length (m ++ r) % 64 ≡ length last = omega (arith, length-drop k r) in
    let front : length (m ++ r) / 64 * 64 ≡ length m + k = omega arith in
    let tail : drop (length m + k) (m ++ r) ≡ last = sym (drop-drop k (length m) (m ++ r)) ∙ ap (drop k) (drop_at m r (length m) refl) in (
      ap (λ v. fold compress v (first_chunks 64 (length r / 64) r)) eh ∙ after_run (length r / 64) m r whole refl,
      rw (short, front, tail) (take_at last x (length last) refl),
    )

-- the hash value h has then taken in the whole blocks of r, and the tail begins with the rest
abbrev Absorbs : List ℕ → List ℕ → List ℕ → List ℕ → Type 0
Absorbs h r b m = IsAbsorbed (fold compress h (first_chunks 64 (length r / 64) r)) (drop (length r / 64 * 64) r ++ drop (length r % 64) b) m

-- no block was begun
none_begun : (u : ℕ) (h b b1 m p : List ℕ) (run : List (List ℕ)) → u ≡ length m % 64 → u ≤ 0 → IsAbsorbed h b m
    → (u + joining u (length p) ≢ 64 → run ≡ []) → Absorbs (fold compress h run) (drop (joining u (length p)) p) b1 (m ++ p)
none_begun u h b b1 m p run eu low held none =
    let nothing : joining u (length p) ≡ 0 = omega arith in
    rw (none (omega arith), nothing) (from_edge m p h (drop (length p % 64) b1) (omega arith) held.0)

-- the piece does not complete the block
not_completed : (u : ℕ) (h b b1 m p : List ℕ) (run : List (List ℕ)) → u ≡ length m % 64 → 0 < u → u + length p < 64 → IsAbsorbed h b m → IsJoined b u p b1
    → (u + joining u (length p) ≢ 64 → run ≡ []) → Absorbs (fold compress h run) (drop (joining u (length p)) p) b1 (m ++ p)
not_completed u h b b1 m p run eu begun short held joins none =
    let all : joining u (length p) ≡ length p = omega arith in
    let left : drop (joining u (length p)) p ≡ [] = drop_all (joining u (length p)) p (omega arith) in
    let placed : take (u + length p) b1 ≡ take u b ++ p =
    ap (λ (k : ℕ). take (u + k) b1) (sym all) ∙ joins.1 ∙ ap (λ (k : ℕ). take u b ++ take k p) all
    ∙ ap (λ (x : List ℕ). take u b ++ x) (take_all (length p) p (omega arith)) in
    let placed' : take (length m % 64 + length p) b1 ≡ take (length m % 64) b ++ p = subst (λ (k : ℕ). take (k + length p) b1 ≡ take k b ++ p) eu placed in
    rw (none (omega arith), left) (IsAbsorbed_short h b b1 m p held (omega arith) placed')

-- the piece completes the block
completed : (u : ℕ) (h b b1 m p : List ℕ) (run : List (List ℕ)) → u ≡ length m % 64 → 0 < u → 64 ≤ u + length p → IsAbsorbed h b m → IsJoined b u p b1
    → (u + joining u (length p) ≡ 64 → run ≡ b1 ∷ []) → Absorbs (fold compress h run) (drop (joining u (length p)) p) b1 (m ++ p)
completed u h b b1 m p run eu begun long held joins full =
    let j : ℕ = joining u (length p) in
    let size : u + j ≡ 64 = omega arith in
    let head : List ℕ = take j p in
    let lh : length head ≡ j = length-take-le j p (omega arith) in
    let block : b1 ≡ take (length m % 64) b ++ head =
    sym (take_all 64 b1 (omega arith)) ∙ ap (λ (k : ℕ). take k b1) (sym size) ∙ joins.1 ∙ ap (λ (k : ℕ). take k b ++ head) eu in
    let filled : IsAbsorbed (compress h b1) b1 (m ++ head) = IsAbsorbed_fill h b b1 m head b1 held (omega arith) block in
    let edge : length (m ++ head) % 64 ≡ 0 = omega (arith, length-append m head) in
    let whole : (m ++ head) ++ drop j p ≡ m ++ p = append_assoc m head (drop j p) ∙ ap (λ (x : List ℕ). m ++ x) (take-append-drop j p) in
    let after : Absorbs (compress h b1) (drop j p) b1 ((m ++ head) ++ drop j p) =
    from_edge (m ++ head) (drop j p) (compress h b1) (drop (length (drop j p) % 64) b1) edge filled.0 in
    rw (full size) (subst (λ (x : List ℕ). Absorbs (compress h b1) (drop j p) b1 x) whole after)

-- the lane's hash value and tail after a piece p
absorbs : (u : ℕ) (h b b1 m p : List ℕ) (run : List (List ℕ)) → u ≡ length m % 64 → IsAbsorbed h b m → IsJoined b u p b1
    → (u + joining u (length p) ≡ 64 → run ≡ b1 ∷ []) → (u + joining u (length p) ≢ 64 → run ≡ [])
    → Absorbs (fold compress h run) (drop (joining u (length p)) p) b1 (m ++ p)
absorbs u h b b1 m p run eu held joins full none = elim (cases_lt 0 u) [
  | inr empty ↦ none_begun u h b b1 m p run eu empty held none
  | inl begun ↦ elim (cases_lt (u + length p) 64) [
    | inl short ↦ not_completed u h b b1 m p run eu begun short held joins none
    | inr long ↦ completed u h b b1 m p run eu begun long held joins full
  ]
]

-- what update leaves in a lane
pub lane_updates : (t t' u : ℕ) (h h1 h2 b b1 b2 m p r : List ℕ) (run more : List (List ℕ))
    → t ≡ length m % 2 ^ 64 → IsAbsorbed h b m → t' ≡ (t + length p) % 2 ^ 64 → u ≡ t % 64 → IsJoined b u p b1
    → (u + joining u (length p) ≡ 64 → run ≡ b1 ∷ []) → (u + joining u (length p) ≢ 64 → run ≡ [])
    → h1 ≡ fold compress h run → r ≡ drop (joining u (length p)) p → more ≡ first_chunks 64 (length r / 64) r → h2 ≡ fold compress h1 more
    → b2 ≡ drop (length r / 64 * 64) r ++ drop (length r % 64) b1
    → (t' ≡ length (m ++ p) % 2 ^ 64) × IsAbsorbed h2 b2 (m ++ p)
lane_updates t t' u h h1 h2 b b1 b2 m p r run more et held et' eu joins full none e1 er em e2 eb =
    let used : u ≡ length m % 64 = omega arith in (
      omega (arith, length-append m p),
      rw (e2, em, e1, eb, er) (absorbs u h b b1 m p run used held joins full none),
    )
