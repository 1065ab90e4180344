-- Names are in the order of their fronts, where these differ.
use Rattle.std.proofs.Common.{◌≡◌, ◌∙◌, ℕ, zero, suc, ◌+◌, ◌*◌, ◌<◌, ◌≤◌, List, [], ◌∷◌, slice_index, refl, sym, ap, subst, arith}
use Rattle.std.proofs.Math.Nat.{mul-le-mul_right, suc-mul}
use Rattle.std.proofs.lemmas.Cmp.{nat_list_cmp_total}
use Rattle.std.specs.Cmp.{ranks}
use Rattle.std.specs.Cmp.Lexicographic.{slice_cmp}
use Rattle.std.specs.Ordering.{MatchOrdering, nat_cmp, ordering_reverse, ordering_then}
use Rattle.std.specs.declared.cmp.Ordering.{Ordering}
use Rattle.std.specs.declared.cmp.Ordering.TheVariants.{Less, Equal, Greater}
use Rattle.droid_tree.specs.NameFronts.{IsFront, front_number, weight}

-- the first n of them are bytes
abbrev AreBytes : ℕ → List ℕ → Type 0
AreBytes n name = (i : ℕ) → i < n → slice_index name i < 256

behind_first : (n b : ℕ) (name : List ℕ) → AreBytes (suc n) (b ∷ name) → AreBytes n name
behind_first n b name bytes = λ i inside. bytes (suc i) (omega (arith, inside))

some_weight : (n : ℕ) → 0 < weight n
some_weight zero = omega arith
some_weight (suc n) = let more = some_weight n in omega (arith, more)

-- a front is below the weight of its length
below : (n : ℕ) (name : List ℕ) → AreBytes n name → front_number n name < weight n
below zero name bytes = omega arith
below (suc n) [] bytes = some_weight (suc n)
below (suc n) (b ∷ name) bytes =
    let small : b < 256 = bytes 0 (omega arith) in
    let most : b * weight n ≤ 255 * weight n = mul-le-mul_right (weight n) (omega (arith, small)) in
    let rest : front_number n name < weight n = below n name (behind_first n b name bytes) in
    omega (arith, most, rest)

cancelled : (a b c d : ℕ) → a ≡ b → a + c < b + d → c < d
cancelled a b c d same less = omega (arith, same, less)

not_greater : (a b c d w : ℕ) → b + w ≤ a → d < w → a + c < b + d → ⊥
not_greater a b c d w far small less = omega (arith, far, small, less)

-- by the first byte of each
by_first : (r : Ordering) (n x y : ℕ) (xs ys : List ℕ) → MatchOrdering r (x < y) (x ≡ y) (y < x) → front_number n ys < weight n
    → x * weight n + front_number n xs < y * weight n + front_number n ys → (front_number n xs < front_number n ys → slice_cmp nat_cmp xs ys ≡ Less)
    → ordering_then r (slice_cmp nat_cmp xs ys) ≡ Less
by_first Less n x y xs ys rank small less more = refl
by_first Equal n x y xs ys rank small less more =
    more (cancelled (x * weight n) (y * weight n) (front_number n xs) (front_number n ys) (ap (λ (k : ℕ). k * weight n) rank) less)
by_first Greater n x y xs ys rank small less more =
    let far : suc y * weight n ≤ x * weight n = mul-le-mul_right (weight n) (omega (arith, rank)) in
    let same = suc-mul y (weight n) in
    absurd (not_greater (x * weight n) (y * weight n) (front_number n xs) (front_number n ys) (weight n) (omega (arith, far, same)) small less)

less_by_front : (n : ℕ) (xs ys : List ℕ) → AreBytes n ys → front_number n xs < front_number n ys → slice_cmp nat_cmp xs ys ≡ Less
less_by_front zero xs ys bytes less = absurd (omega (arith, less))
less_by_front (suc n) [] [] bytes less = absurd (omega (arith, less))
less_by_front (suc n) [] (y ∷ ys) bytes less = refl
less_by_front (suc n) (x ∷ xs) [] bytes less = absurd (omega (arith, less))
less_by_front (suc n) (x ∷ xs) (y ∷ ys) bytes less =
    by_first (nat_cmp x y) n x y xs ys (ranks x y) (below n ys (behind_first n y ys bytes)) less (less_by_front n xs ys (behind_first n y ys bytes))

greater_by_front : (n : ℕ) (xs ys : List ℕ) → AreBytes n xs → front_number n ys < front_number n xs → slice_cmp nat_cmp xs ys ≡ Greater
greater_by_front n xs ys bytes less = nat_list_cmp_total.antisymm xs ys ∙ ap ordering_reverse (less_by_front n ys xs bytes less)

between : (x y a b : ℕ) → x ≡ a → y ≡ b → x < y → a < b
between x y a b one other less = omega (arith, one, other, less)

-- what the numbers of the fronts say of the names
pub less_found : (xs ys : List ℕ) (x y : ℕ) → IsFront xs x → IsFront ys y → Less ≡ nat_cmp x y → Less ≡ slice_cmp nat_cmp xs ys
less_found xs ys x y one other found =
    let less : x < y = subst (λ (r : Ordering). MatchOrdering r (x < y) (x ≡ y) (y < x)) (sym found) (ranks x y) in
    sym (less_by_front 8 xs ys other.bytes (between x y (front_number 8 xs) (front_number 8 ys) one.number other.number less))

pub greater_found : (xs ys : List ℕ) (x y : ℕ) → IsFront xs x → IsFront ys y → Greater ≡ nat_cmp x y → Greater ≡ slice_cmp nat_cmp xs ys
greater_found xs ys x y one other found =
    let greater : y < x = subst (λ (r : Ordering). MatchOrdering r (x < y) (x ≡ y) (y < x)) (sym found) (ranks x y) in
    sym (greater_by_front 8 xs ys one.bytes (between y x (front_number 8 ys) (front_number 8 xs) other.number one.number greater))
