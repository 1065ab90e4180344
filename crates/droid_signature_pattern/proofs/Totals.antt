-- How many bytes texts have in all.
use Rattle.std.proofs.Common.{◌≡◌, ◌↔◌, ⊎_elim, Bool, false, ℕ, ◌+◌, ◌<◌, ◌≤◌, List, [], ◌∷◌, ◌++◌, length, take, drop, get_or, sym, ap, ◌∙◌, arith}
use Rattle.std.specs.Bool.{IsTrue}
use Rattle.std.proofs.lemmas.Bool.{cases_lt, false≢true}
use Rattle.std.proofs.lemmas.List.{take-append-drop, take_more}
use Rattle.droid_signature_pattern.specs.Texts.{joined, total}
use Rattle.droid_signature_pattern.proofs.Joined.{joined_append}

total_append : (xs ys : List (List ℕ)) → total (xs ++ ys) ≡ total xs + total ys
total_append [] ys = omega arith
total_append (x ∷ xs) ys = let more = total_append xs ys in omega (arith, more)

-- with one more text
pub total_more : (xs : List (List ℕ)) (i : ℕ) (x : List ℕ) → i < length xs → x ≡ get_or xs i x → total (take (i + 1) xs) ≡ total (take i xs) + length x
total_more xs i x below is =
    let grown = ap total (take_more xs i x below) ∙ total_append (take i xs) (get_or xs i x ∷ []) in
    let last = ap length (sym is) in
    omega (arith, grown, last)

-- the first texts have no more than all
pub total_take : (xs : List (List ℕ)) (i : ℕ) → total (take i xs) ≤ total xs
total_take xs i =
    let whole = ap total (take-append-drop i xs) in
    let parts = total_append (take i xs) (drop i xs) in
    omega (arith, whole, parts)

pub total_joined : (xs ys : List (List ℕ)) (i : ℕ) → total (joined (take i xs) ys) ≤ total (joined xs ys)
total_joined xs ys i =
    let whole = ap (λ l. total (joined l ys)) (take-append-drop i xs) in
    let parts = ap total (joined_append (take i xs) (drop i xs) ys) in
    let sums = total_append (joined (take i xs) ys) (joined (drop i xs) ys) in
    omega (arith, whole, parts, sums)

pub is_short : (texts : List (List ℕ)) (t : Bool) → IsTrue t ↔ (16384 < total texts) → t ≡ false → total texts ≤ 16384
is_short texts t says is = ⊎_elim (λ big. absurd (false≢true (sym is ∙ says.1 big))) (λ small. omega arith) (cases_lt 16384 (total texts))
