-- The ends of lists that grow.
use Rattle.std.proofs.Common.{◌≡◌, ℕ, zero, suc, ◌+◌, ◌-◌, List, [], ◌∷◌, ◌++◌, length, take, drop, min, refl, sym, ap, ◌∙◌, arith, length-append, length-drop}
use Rattle.std.proofs.lemmas.Grind.{common_steps}
use Rattle.std.proofs.lemmas.List.{length-take, drop-drop, drop-append-le}
use Rattle.droid_assembly.specs.Pieces.{last_window}

no_bytes : List ℕ
no_bytes = []

take-nil : (n : ℕ) → take n [] ≡ no_bytes
unfolding no_bytes
take-nil zero = refl
take-nil (suc n) = refl

-- the first bytes of two lists joined
take-append : (n : ℕ) (xs ys : List ℕ) → take n (xs ++ ys) ≡ take n xs ++ take (n - length xs) ys
unfolding no_bytes
take-append n [] ys = rw take-nil (ap (λ k. take k ys) (omega arith))
take-append zero (x ∷ xs) ys = grind (arith, common_steps)
take-append (suc n) (x ∷ xs) ys = ap (λ zs. x ∷ zs) (take-append n xs ys) ∙ ap (λ k. x ∷ (take n xs ++ take k ys)) (omega arith)

suc_min : (n : ℕ) (xs : List ℕ) → min (suc n) (suc (length xs)) ≡ suc (min n (length xs))
suc_min n xs = omega arith

zero_min : (n : ℕ) → min 0 n ≡ 0
zero_min n = omega arith

-- more than a list has is all of it
pub take-min : (n : ℕ) (xs : List ℕ) → take (min n (length xs)) xs ≡ take n xs
unfolding no_bytes
take-min n [] = take-nil (min n 0) ∙ sym (take-nil n)
take-min zero (x ∷ xs) = ap (λ k. take k (x ∷ xs)) (zero_min (length (x ∷ xs)))
take-min (suc n) (x ∷ xs) = ap (λ k. take k (x ∷ xs)) (suc_min n xs) ∙ ap (λ zs. x ∷ zs) (take-min n xs)

-- a window of the first bytes takes what it has room for
pub first_more : (width count : ℕ) (before bytes after : List ℕ) → after ≡ before ++ bytes → count ≡ min (length bytes) (width - length (take width before)) → take width before ++ take count bytes ≡ take width after
first_more width count before bytes after more is =
    let left : count ≡ min (width - length before) (length bytes) = omega (arith, is, length-take width before) in
    rw (more, take-append, left, take-min)

-- the last bytes of what grew are those of the last ones grown
pub last-last : (w : ℕ) (before bytes : List ℕ) → last_window w (last_window w before ++ bytes) ≡ last_window w (before ++ bytes)
last-last w before bytes =
    let skip = length before - w in
    let after = drop skip before ++ bytes in
    let n = length after - w in
    let same : skip + n ≡ length (before ++ bytes) - w = omega (arith, length-append (drop skip before) bytes, length-append before bytes, length-drop skip before) in
    sym (ap (drop n) (drop-append-le skip before bytes (omega arith)))
    ∙ drop-drop n skip (before ++ bytes)
    ∙ ap (λ k. drop k (before ++ bytes)) same
