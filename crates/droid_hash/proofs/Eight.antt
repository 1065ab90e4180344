-- What holds of eight lanes.
use Rattle.std.proofs.Common.{◌≡◌, ℕ, zero, suc, ◌<◌, ◌-◌, ◌*◌, ◌/◌, ◌%◌, ◌^◌, List, [], ◌∷◌, length, map, slice_index, slice_index_or, bit_or, bit_and, bit_xor, arith, refl, sym, ap, subst, ◌∙◌}
use Rattle.std.proofs.Math.ListN.{get_or-map}
use Rattle.std.specs.Int.{w32, rotate_left, bit_not}
use Rattle.std.specs.Simd.Lanes.{zip2}
use Rattle.std.specs.Borrow.{Bor}
use Rattle.md5.specs.Md5.{f_fn, g_fn, h_fn, i_fn}
use Rattle.droid_hash.specs.Lanes.{piece}

-- what holds of each of the eight lanes
pub below_eight : (P : ℕ → Type 0) → P 0 → P 1 → P 2 → P 3 → P 4 → P 5 → P 6 → P 7 → (j : ℕ) → j < 8 → P j
below_eight P p0 p1 p2 p3 p4 p5 p6 p7 zero h = p0
below_eight P p0 p1 p2 p3 p4 p5 p6 p7 (suc zero) h = p1
below_eight P p0 p1 p2 p3 p4 p5 p6 p7 (suc (suc zero)) h = p2
below_eight P p0 p1 p2 p3 p4 p5 p6 p7 (suc (suc (suc zero))) h = p3
below_eight P p0 p1 p2 p3 p4 p5 p6 p7 (suc (suc (suc (suc zero)))) h = p4
below_eight P p0 p1 p2 p3 p4 p5 p6 p7 (suc (suc (suc (suc (suc zero))))) h = p5
below_eight P p0 p1 p2 p3 p4 p5 p6 p7 (suc (suc (suc (suc (suc (suc zero)))))) h = p6
below_eight P p0 p1 p2 p3 p4 p5 p6 p7 (suc (suc (suc (suc (suc (suc (suc zero))))))) h = p7
below_eight P p0 p1 p2 p3 p4 p5 p6 p7 (suc (suc (suc (suc (suc (suc (suc (suc n)))))))) h = absurd (omega arith)

-- what holds of each list of eight elements
pub eight_lanes : {A : Type 0} (P : List A → Type 0) → ((a b c d e f g h : A) → P (a ∷ b ∷ c ∷ d ∷ e ∷ f ∷ g ∷ h ∷ []))
    → (xs : List A) → length xs ≡ 8 → P xs
eight_lanes P p (a ∷ b ∷ c ∷ d ∷ e ∷ f ∷ g ∷ h ∷ []) n = p a b c d e f g h
eight_lanes P p [] n = absurd (omega arith)
eight_lanes P p (a ∷ []) n = absurd (omega arith)
eight_lanes P p (a ∷ b ∷ []) n = absurd (omega arith)
eight_lanes P p (a ∷ b ∷ c ∷ []) n = absurd (omega arith)
eight_lanes P p (a ∷ b ∷ c ∷ d ∷ []) n = absurd (omega arith)
eight_lanes P p (a ∷ b ∷ c ∷ d ∷ e ∷ []) n = absurd (omega arith)
eight_lanes P p (a ∷ b ∷ c ∷ d ∷ e ∷ f ∷ []) n = absurd (omega arith)
eight_lanes P p (a ∷ b ∷ c ∷ d ∷ e ∷ f ∷ g ∷ []) n = absurd (omega arith)
eight_lanes P p (a ∷ b ∷ c ∷ d ∷ e ∷ f ∷ g ∷ h ∷ i ∷ xs) n = absurd (omega arith)

-- a fact of each lane of three vectors, which computes once the lanes are known
abbrev EachLane : (List ℕ → List ℕ → List ℕ → ℕ → Type 0) → Type 0
EachLane P = (x : List ℕ) → length x ≡ 8 → (y : List ℕ) → length y ≡ 8 → (z : List ℕ) → length z ≡ 8 → (j : ℕ) → j < 8 → P x y z j

three : (P : List ℕ → List ℕ → List ℕ → Type 0)
    → ((x0 x1 x2 x3 x4 x5 x6 x7 y0 y1 y2 y3 y4 y5 y6 y7 z0 z1 z2 z3 z4 z5 z6 z7 : ℕ)
    → P (x0 ∷ x1 ∷ x2 ∷ x3 ∷ x4 ∷ x5 ∷ x6 ∷ x7 ∷ []) (y0 ∷ y1 ∷ y2 ∷ y3 ∷ y4 ∷ y5 ∷ y6 ∷ y7 ∷ []) (z0 ∷ z1 ∷ z2 ∷ z3 ∷ z4 ∷ z5 ∷ z6 ∷ z7 ∷ []))
    → (x : List ℕ) → length x ≡ 8 → (y : List ℕ) → length y ≡ 8 → (z : List ℕ) → length z ≡ 8 → P x y z
three P p =
    eight_lanes (λ x. (y : List ℕ) → length y ≡ 8 → (z : List ℕ) → length z ≡ 8 → P x y z) (λ x0 x1 x2 x3 x4 x5 x6 x7.
    eight_lanes (λ y. (z : List ℕ) → length z ≡ 8 → P (x0 ∷ x1 ∷ x2 ∷ x3 ∷ x4 ∷ x5 ∷ x6 ∷ x7 ∷ []) y z) (λ y0 y1 y2 y3 y4 y5 y6 y7.
    eight_lanes (λ z. P (x0 ∷ x1 ∷ x2 ∷ x3 ∷ x4 ∷ x5 ∷ x6 ∷ x7 ∷ []) (y0 ∷ y1 ∷ y2 ∷ y3 ∷ y4 ∷ y5 ∷ y6 ∷ y7 ∷ []) z)
    (p x0 x1 x2 x3 x4 x5 x6 x7 y0 y1 y2 y3 y4 y5 y6 y7)))

pub lanes_f : EachLane (λ x y z j. slice_index (zip2 bit_or (zip2 bit_and x y) (zip2 bit_and (map (bit_not w32) x) z)) j
    ≡ f_fn (slice_index x j) (slice_index y j) (slice_index z j))
lanes_f = three _ (λ x0 x1 x2 x3 x4 x5 x6 x7 y0 y1 y2 y3 y4 y5 y6 y7 z0 z1 z2 z3 z4 z5 z6 z7.
    below_eight _ refl refl refl refl refl refl refl refl)

pub lanes_g : EachLane (λ x y z j. slice_index (zip2 bit_or (zip2 bit_and x z) (zip2 bit_and y (map (bit_not w32) z))) j
    ≡ g_fn (slice_index x j) (slice_index y j) (slice_index z j))
lanes_g = three _ (λ x0 x1 x2 x3 x4 x5 x6 x7 y0 y1 y2 y3 y4 y5 y6 y7 z0 z1 z2 z3 z4 z5 z6 z7.
    below_eight _ refl refl refl refl refl refl refl refl)

pub lanes_h : EachLane (λ x y z j. slice_index (zip2 bit_xor (zip2 bit_xor x y) z) j
    ≡ h_fn (slice_index x j) (slice_index y j) (slice_index z j))
lanes_h = three _ (λ x0 x1 x2 x3 x4 x5 x6 x7 y0 y1 y2 y3 y4 y5 y6 y7 z0 z1 z2 z3 z4 z5 z6 z7.
    below_eight _ refl refl refl refl refl refl refl refl)

pub lanes_i : EachLane (λ x y z j. slice_index (zip2 bit_xor y (zip2 bit_or x (map (bit_not w32) z))) j
    ≡ i_fn (slice_index x j) (slice_index y j) (slice_index z j))
lanes_i = three _ (λ x0 x1 x2 x3 x4 x5 x6 x7 y0 y1 y2 y3 y4 y5 y6 y7 z0 z1 z2 z3 z4 z5 z6 z7.
    below_eight _ refl refl refl refl refl refl refl refl)

-- two shifts and an or are a rotation
abbrev Rotates : ℕ → List ℕ → Type 0
Rotates k x = (j : ℕ) → j < 8
    → slice_index (zip2 bit_or
    (zip2 (λ x n. x * 2 ^ n % 2 ^ 32) x (k ∷ k ∷ k ∷ k ∷ k ∷ k ∷ k ∷ k ∷ []))
    (zip2 (λ x n. x / 2 ^ n) x ((32 - k) ∷ (32 - k) ∷ (32 - k) ∷ (32 - k) ∷ (32 - k) ∷ (32 - k) ∷ (32 - k) ∷ (32 - k) ∷ []))) j
    ≡ rotate_left w32 (slice_index x j) k

pub shifts_turn : (k : ℕ) → 0 < k → k < 32 → (x : List ℕ) → length x ≡ 8 → Rotates k x
shifts_turn k low high =
    let left : k % 32 ≡ k = omega arith in
    let right : (32 - k) % 32 ≡ 32 - k = omega arith in
    eight_lanes (Rotates k) (λ a b c d e f g h.
    below_eight _ (rw (left, right) refl) (rw (left, right) refl) (rw (left, right) refl) (rw (left, right) refl)
    (rw (left, right) refl) (rw (left, right) refl) (rw (left, right) refl) (rw (left, right) refl))

-- a bound on a list of f's, read at one place
pub within_mapped : {A B : Type 0} (f : A → List B) (xs : List A) (d : A) (n k : ℕ)
    → n < length (slice_index_or (map f xs) k (f d)) → n < length (f (slice_index_or xs k d))
within_mapped f xs d n k h = rw (get_or-map f xs k d) at h

-- eight results of g at a list of f's
pub eight_results : {A C R : Type 0} (f : A → List C) (g : List C → R) (xs : List A) (d : A) (z r0 r1 r2 r3 r4 r5 r6 r7 : R)
    → r0 ≡ g (f (slice_index_or xs 0 d)) → r1 ≡ g (f (slice_index_or xs 1 d)) → r2 ≡ g (f (slice_index_or xs 2 d)) → r3 ≡ g (f (slice_index_or xs 3 d))
    → r4 ≡ g (f (slice_index_or xs 4 d)) → r5 ≡ g (f (slice_index_or xs 5 d)) → r6 ≡ g (f (slice_index_or xs 6 d)) → r7 ≡ g (f (slice_index_or xs 7 d))
    → (j : ℕ) → j < 8 → slice_index_or (r0 ∷ r1 ∷ r2 ∷ r3 ∷ r4 ∷ r5 ∷ r6 ∷ r7 ∷ []) j z ≡ g (slice_index_or (map f xs) j (f d))
eight_results f g xs d z r0 r1 r2 r3 r4 r5 r6 r7 e0 e1 e2 e3 e4 e5 e6 e7 =
    let at = λ (k : ℕ). ap g (sym (get_or-map f xs k d)) in
    below_eight _ (e0 ∙ at 0) (e1 ∙ at 1) (e2 ∙ at 2) (e3 ∙ at 3) (e4 ∙ at 4) (e5 ∙ at 5) (e6 ∙ at 6) (e7 ∙ at 7)

-- what holds of the f of an element holds of it in the list of f's
pub of_element : {A C : Type 0} (f : A → List C) (P : List C → Type 0) (xs : List A) (k : ℕ) (d : A) → P (f (slice_index_or xs k d)) → P (slice_index_or (map f xs) k (f d))
of_element f P xs k d h = subst P (sym (get_or-map f xs k d)) h

-- a list of eight times one slice has it in each lane
pub same_in_each : {A : Type 0} (x : Bor (List A)) (j : ℕ) → j < 8 → piece j (x ∷ x ∷ x ∷ x ∷ x ∷ x ∷ x ∷ x ∷ []) ≡ x.now
same_in_each x = below_eight _ refl refl refl refl refl refl refl refl
