-- What holds of four lanes.
use Rattle.std.proofs.Common.{◌≡◌, ℕ, zero, suc, ◌<◌, ◌-◌, ◌*◌, ◌/◌, ◌%◌, ◌^◌, List, [], ◌∷◌, length, map, slice_index, slice_index_or, bit_or, bit_and, bit_xor, arith, refl, sym, ap, ◌∙◌}
use Rattle.std.proofs.Math.ListN.{get_or-map}
use Rattle.std.specs.Borrow.{Bor}
use Rattle.std.specs.Int.{w32, rotate_right, bit_not}
use Rattle.std.specs.Simd.Lanes.{zip2}
use Rattle.sha2.specs.Sha256.{ch, maj}
use Rattle.droid_hash.specs.Lanes.{piece}
use Rattle.droid_hash.proofs.Majority.{maj_short}

-- what holds of each of the four lanes
pub below_four : (P : ℕ → Type 0) → P 0 → P 1 → P 2 → P 3 → (j : ℕ) → j < 4 → P j
below_four P p0 p1 p2 p3 zero h = p0
below_four P p0 p1 p2 p3 (suc zero) h = p1
below_four P p0 p1 p2 p3 (suc (suc zero)) h = p2
below_four P p0 p1 p2 p3 (suc (suc (suc zero))) h = p3
below_four P p0 p1 p2 p3 (suc (suc (suc (suc n)))) h = absurd (omega arith)

-- what holds of each list of four elements
pub four_lanes : {A : Type 0} (P : List A → Type 0) → ((a b c d : A) → P (a ∷ b ∷ c ∷ d ∷ [])) → (xs : List A) → length xs ≡ 4 → P xs
four_lanes P p (a ∷ b ∷ c ∷ d ∷ []) n = p a b c d
four_lanes P p [] n = absurd (omega arith)
four_lanes P p (a ∷ []) n = absurd (omega arith)
four_lanes P p (a ∷ b ∷ []) n = absurd (omega arith)
four_lanes P p (a ∷ b ∷ c ∷ []) n = absurd (omega arith)
four_lanes P p (a ∷ b ∷ c ∷ d ∷ e ∷ xs) n = absurd (omega arith)

-- a fact of each lane of three vectors, which computes once the lanes are known
abbrev EachLane : (List ℕ → List ℕ → List ℕ → ℕ → Type 0) → Type 0
EachLane P = (x : List ℕ) → length x ≡ 4 → (y : List ℕ) → length y ≡ 4 → (z : List ℕ) → length z ≡ 4 → (j : ℕ) → j < 4 → P x y z j

of_three : (P : List ℕ → List ℕ → List ℕ → Type 0)
    → ((x0 x1 x2 x3 y0 y1 y2 y3 z0 z1 z2 z3 : ℕ) → P (x0 ∷ x1 ∷ x2 ∷ x3 ∷ []) (y0 ∷ y1 ∷ y2 ∷ y3 ∷ []) (z0 ∷ z1 ∷ z2 ∷ z3 ∷ []))
    → (x : List ℕ) → length x ≡ 4 → (y : List ℕ) → length y ≡ 4 → (z : List ℕ) → length z ≡ 4 → P x y z
of_three P p =
    four_lanes (λ x. (y : List ℕ) → length y ≡ 4 → (z : List ℕ) → length z ≡ 4 → P x y z) (λ x0 x1 x2 x3.
    four_lanes (λ y. (z : List ℕ) → length z ≡ 4 → P (x0 ∷ x1 ∷ x2 ∷ x3 ∷ []) y z) (λ y0 y1 y2 y3.
    four_lanes (λ z. P (x0 ∷ x1 ∷ x2 ∷ x3 ∷ []) (y0 ∷ y1 ∷ y2 ∷ y3 ∷ []) z) (p x0 x1 x2 x3 y0 y1 y2 y3)))

pub lanes_three : EachLane (λ x y z j. slice_index (zip2 bit_xor (zip2 bit_xor x y) z) j
    ≡ bit_xor (bit_xor (slice_index x j) (slice_index y j)) (slice_index z j))
lanes_three = of_three _ (λ x0 x1 x2 x3 y0 y1 y2 y3 z0 z1 z2 z3. below_four _ refl refl refl refl)

pub lanes_ch : EachLane (λ x y z j. slice_index (zip2 bit_xor (zip2 bit_and x y) (zip2 bit_and (map (bit_not w32) x) z)) j
    ≡ ch (slice_index x j) (slice_index y j) (slice_index z j))
lanes_ch = of_three _ (λ x0 x1 x2 x3 y0 y1 y2 y3 z0 z1 z2 z3. below_four _ refl refl refl refl)

pub lanes_maj : EachLane (λ x y z j. slice_index (zip2 bit_xor y (zip2 bit_and (zip2 bit_xor x y) (zip2 bit_xor y z))) j
    ≡ maj (slice_index x j) (slice_index y j) (slice_index z j))
lanes_maj = of_three _ (λ x0 x1 x2 x3 y0 y1 y2 y3 z0 z1 z2 z3.
    below_four _ (maj_short x0 y0 z0) (maj_short x1 y1 z1) (maj_short x2 y2 z2) (maj_short x3 y3 z3))

-- two shifts and an or are a rotation
abbrev RotatesRight : ℕ → List ℕ → Type 0
RotatesRight k x = (j : ℕ) → j < 4
    → slice_index (zip2 bit_or
    (zip2 (λ x n. x / 2 ^ n) x (k ∷ k ∷ k ∷ k ∷ []))
    (zip2 (λ x n. x * 2 ^ n % 2 ^ 32) x ((32 - k) ∷ (32 - k) ∷ (32 - k) ∷ (32 - k) ∷ []))) j
    ≡ rotate_right w32 (slice_index x j) k

pub shifts_turn_right : (k : ℕ) → 0 < k → k < 32 → (x : List ℕ) → length x ≡ 4 → RotatesRight k x
shifts_turn_right k low high =
    let left : k % 32 ≡ k = omega arith in
    let right : (32 - k) % 32 ≡ 32 - k = omega arith in
    four_lanes (RotatesRight k) (λ a b c d.
    below_four _ (rw (left, right) refl) (rw (left, right) refl) (rw (left, right) refl) (rw (left, right) refl))

abbrev Shifts : ℕ → List ℕ → Type 0
Shifts k x = (j : ℕ) → j < 4 → slice_index (zip2 (λ x n. x / 2 ^ n) x (k ∷ k ∷ k ∷ k ∷ [])) j ≡ slice_index x j / 2 ^ k

pub lanes_shift : (k : ℕ) (x : List ℕ) → length x ≡ 4 → Shifts k x
lanes_shift k = four_lanes (Shifts k) (λ a b c d. below_four _ refl refl refl refl)

-- four results of g at a list of f's
pub four_results : {A C R : Type 0} (f : A → List C) (g : List C → R) (xs : List A) (d : A) (z r0 r1 r2 r3 : R)
    → r0 ≡ g (f (slice_index_or xs 0 d)) → r1 ≡ g (f (slice_index_or xs 1 d)) → r2 ≡ g (f (slice_index_or xs 2 d)) → r3 ≡ g (f (slice_index_or xs 3 d))
    → (j : ℕ) → j < 4 → slice_index_or (r0 ∷ r1 ∷ r2 ∷ r3 ∷ []) j z ≡ g (slice_index_or (map f xs) j (f d))
four_results f g xs d z r0 r1 r2 r3 e0 e1 e2 e3 =
    let at = λ (k : ℕ). ap g (sym (get_or-map f xs k d)) in
    below_four _ (e0 ∙ at 0) (e1 ∙ at 1) (e2 ∙ at 2) (e3 ∙ at 3)

-- a list of four times one slice has it in each lane
pub same_in_each_four : {A : Type 0} (x : Bor (List A)) (j : ℕ) → j < 4 → piece j (x ∷ x ∷ x ∷ x ∷ []) ≡ x.now
same_in_each_four x = below_four _ refl refl refl refl

-- a number in each lane
pub splat_lane : (k j : ℕ) → j < 4 → slice_index (k ∷ k ∷ k ∷ k ∷ []) j ≡ k
splat_lane k = below_four _ refl refl refl refl
