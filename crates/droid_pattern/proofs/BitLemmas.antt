-- Bits of words, and places in lists of words.
use Rattle.std.proofs.Common.{◌≡◌, ◌↔◌, ◌⊎◌, ℕ, ◌+◌, ◌*◌, ◌-◌, ◌/◌, ◌%◌, ◌^◌, ◌<◌, ◌≤◌, List, length, get_or, inl, inr, ⊎_elim, sym, ap, ◌∙◌, arith, rules}
use Rattle.std.proofs.lemmas.Bool.{cases_lt, cases_eq}
use Rattle.std.proofs.lemmas.List.{get_or_past}
use Rattle.std.proofs.lemmas.Nat.{shr-shr}
use Rattle.std.proofs.lemmas.Nat.Bits.{bit_at_or, bit_at_and, bit_at-zero, bit_at-lt, bit_at_cat_low, bit_at_cat_high}
use Rattle.std.specs.Prelude.{bit_and, bit_or}
use Rattle.std.specs.Int.{bit_at}
use Rattle.droid_pattern.specs.Places.{IsPlace}

-- the lowest bits of a number are those of its word
pub low_bits : (n i : ℕ) → i < 64 → bit_at (n % 2 ^ 64) i ≡ bit_at n i
low_bits n i below =
    let whole : n / 2 ^ 64 * 2 ^ 64 + n % 2 ^ 64 ≡ n = omega arith in
    sym (bit_at_cat_low (n / 2 ^ 64) 64 (n % 2 ^ 64) i below) ∙ ap (λ x. bit_at x i) whole

-- a bit that was moved up
pub bit_up : (w part i : ℕ) → i < 64 → part ≤ i → bit_at (w * 2 ^ part % 2 ^ 64) i ≡ bit_at w (i - part)
bit_up w part i below from =
    let none : w * 2 ^ part + 0 ≡ w * 2 ^ part = omega arith in
    low_bits (w * 2 ^ part) i below ∙ ap (λ x. bit_at x i) (sym none) ∙ bit_at_cat_high w part 0 i (search rules) from

-- below the move there is none
pub bit_up_none : (w part i : ℕ) → i < 64 → i < part → bit_at (w * 2 ^ part % 2 ^ 64) i ≡ 0
bit_up_none w part i below under =
    let none : w * 2 ^ part + 0 ≡ w * 2 ^ part = omega arith in
    low_bits (w * 2 ^ part) i below ∙ ap (λ x. bit_at x i) (sym none) ∙ bit_at_cat_low w part 0 i under ∙ bit_at-zero i

-- a bit that was moved down
pub bit_down : (w k i : ℕ) → bit_at (w / 2 ^ k) i ≡ bit_at w (k + i)
bit_down w k i = ap (λ x. x % 2) (shr-shr w k i)

-- a place, by its word and bit
pub place_at : (words : List ℕ) (j i : ℕ) → i < 64 → IsPlace words (64 * j + i) ↔ (bit_at (get_or words j 0) i ≡ 1)
unfolding IsPlace
place_at words j i below =
    let word : (64 * j + i) / 64 ≡ j = omega arith in
    let bit : (64 * j + i) % 64 ≡ i = omega arith in
    rw (word, bit) (λ h. h, λ h. h)

-- a place lies within the words
pub place_below : (words : List ℕ) (p : ℕ) → IsPlace words p → p < 64 * length words
unfolding IsPlace
place_below words p h =
    elim (cases_lt p (64 * length words)) [
      | inl below ↦ below
      | inr past ↦ absurd (
          let none : get_or words (p / 64) 0 ≡ 0 = get_or_past words (p / 64) 0 (omega arith) in
          let bit : bit_at (get_or words (p / 64) 0) (p % 64) ≡ 0 = ap (λ w. bit_at w (p % 64)) none ∙ bit_at-zero (p % 64) in
          omega arith
          )
    ]

-- a place is determined by its word alone
pub place_same : (a b : List ℕ) (p : ℕ) → get_or a (p / 64) 0 ≡ get_or b (p / 64) 0 → IsPlace a p ↔ IsPlace b p
unfolding IsPlace
place_same a b p e = rw e (λ h. h, λ h. h)

-- a place, by its word and bit
pub place_bit : (words : List ℕ) (p : ℕ) → IsPlace words p ↔ (bit_at (get_or words (p / 64) 0) (p % 64) ≡ 1)
unfolding IsPlace
place_bit words p = (λ h. h, λ h. h)

pub or_bits : (a b i : ℕ) → (bit_at (bit_or a b) i ≡ 1) ↔ ((bit_at a i ≡ 1) ⊎ (bit_at b i ≡ 1))
or_bits a b i = (
  λ h. elim (cases_eq (bit_at a i) 1) [ inl e ↦ inl e | inr ne ↦ inr (omega (arith, bit_at_or a b i, bit_at-lt a i, bit_at-lt b i)) ],
  λ h. ⊎_elim (λ e. omega (arith, bit_at_or a b i, bit_at-lt a i, bit_at-lt b i)) (λ e. omega (arith, bit_at_or a b i, bit_at-lt a i, bit_at-lt b i)) h,
)

pub and_bits : (a b i : ℕ) → (bit_at (bit_and a b) i ≡ 1) ↔ ((bit_at a i ≡ 1) × (bit_at b i ≡ 1))
and_bits a b i = (
  λ h. (omega (arith, bit_at_and a b i, bit_at-lt a i, bit_at-lt b i), omega (arith, bit_at_and a b i, bit_at-lt a i, bit_at-lt b i)),
  λ h. omega (arith, bit_at_and a b i, h.0, h.1),
)
