-- The words of two bit sets combined, and words that are 0.
use Rattle.std.proofs.Common.{◌≡◌, ◌↔◌, ◌⊎◌, ℕ, zero, ◌+◌, ◌*◌, ◌-◌, ◌/◌, ◌%◌, ◌^◌, ◌<◌, ◌≤◌, List, length, get_or, take, length-take, get_or-take, replicate, ◌++◌, w64, inl, inr, ⊎_elim, refl, sym, ap, ◌∙◌, arith, rules}
use Rattle.std.proofs.lemmas.Bool.{cases_lt}
use Rattle.std.proofs.lemmas.List.{get_or-replicate, length-replicate, get_or_append_left, get_or-append_right, get_or_past}
use Rattle.std.proofs.lemmas.Nat.Bits.{bit_at_mask_inside, bit_at_mask_below, bit_at_mask_above, bit_at-trailing_zeros, bit_at-zero}
use Rattle.std.specs.Prelude.{bit_and, bit_or}
use Rattle.std.specs.Int.{bit_at, trailing_zeros}
use Rattle.droid_pattern.specs.Places.{IsPlace}
use Rattle.droid_pattern.proofs.BitLemmas.{place_at, place_below, place_same, place_bit, or_bits, and_bits}

-- words that have what both have
pub keeps_all : (old new others : List ℕ) → length new ≡ length old → ((j : ℕ) → j < length old → get_or new j 0 ≡ bit_and (get_or old j 0) (get_or others j 0))
    → (p : ℕ) → p < 64 * length old → IsPlace new p ↔ (IsPlace old p × IsPlace others p)
unfolding IsPlace
keeps_all old new others len each p below =
    let both = and_bits (get_or old (p / 64) 0) (get_or others (p / 64) 0) (p % 64) in
    rw (each (p / 64) (omega arith)) both

joined : (old new others : List ℕ) (p : ℕ) → get_or new (p / 64) 0 ≡ bit_or (get_or old (p / 64) 0) (get_or others (p / 64) 0) → IsPlace new p ↔ (IsPlace old p ⊎ IsPlace others p)
unfolding IsPlace
joined old new others p e = rw e (or_bits (get_or old (p / 64) 0) (get_or others (p / 64) 0) (p % 64))

-- words that have what one of them has
pub joins_all : (old new others : List ℕ) → ((j : ℕ) → j < length others → get_or new j 0 ≡ bit_or (get_or old j 0) (get_or others j 0))
    → ((j : ℕ) → length others ≤ j → get_or new j 0 ≡ get_or old j 0)
    → (p : ℕ) → IsPlace new p ↔ (IsPlace old p ⊎ IsPlace others p)
joins_all old new others each left p =
    elim (cases_lt (p / 64) (length others)) [
      | inl below ↦ joined old new others p (each (p / 64) below)
      | inr past ↦
          let same = place_same new old p (left (p / 64) past) in (
            λ h. inl (same.0 h),
            λ h. ⊎_elim same.1 (λ other. let inside = place_below others p other in absurd (omega arith)) h,
          )
    ]

-- the first words have the places of all, where no other word has any
pub trimmed : (words : List ℕ) (n : ℕ) → ((k : ℕ) → n ≤ k → get_or words k 0 ≡ 0) → (p : ℕ) → IsPlace (take n words) p ↔ IsPlace words p
trimmed words n none p =
    place_same (take n words) words p (elim (cases_lt (p / 64) n) [
      | inl below ↦ get_or-take n words (p / 64) 0 below
      | inr past ↦ get_or_past (take n words) (p / 64) 0 (omega (arith, length-take n words)) ∙ sym (none (p / 64) past)
    ])

-- the first words have the places that lie in them
pub cut_places : (words : List ℕ) (n p : ℕ) → IsPlace (take n words) p ↔ (IsPlace words p × (p < 64 * n))
cut_places words n p =
    elim (cases_lt (p / 64) n) [
      | inl below ↦
          let same = place_same (take n words) words p (get_or-take n words (p / 64) 0 below) in
          (λ h. (same.0 h, omega arith), λ h. same.1 h.0)
      | inr past ↦ (
        λ h. let inside = place_below (take n words) p h in absurd (omega (arith, length-take n words)),
        λ h. absurd (omega (arith, h.1)),
      )
    ]

-- words with no place
abbrev pub zeros : ℕ → List ℕ
zeros n = replicate n 0

no_word : (n k : ℕ) → get_or (zeros n) k 0 ≡ 0
no_word n k = elim (cases_lt k n) [ inl below ↦ get_or-replicate n k 0 0 below | inr past ↦ get_or_past (zeros n) k 0 (omega (arith, length-replicate n zero)) ]

-- words with no place behind others
pub grown_places : (words : List ℕ) (n p : ℕ) → IsPlace (words ++ zeros n) p ↔ IsPlace words p
grown_places words n p =
    place_same (words ++ zeros n) words p (elim (cases_lt (p / 64) (length words)) [
      | inl below ↦ get_or_append_left words (zeros n) 0 (p / 64) below
      | inr past ↦ get_or-append_right words (zeros n) (length words) (p / 64) 0 refl past ∙ no_word n (p / 64 - length words) ∙ sym (get_or_past words (p / 64) 0 past)
    ])

-- the lowest bit of the first word that isn't 0 is the lowest place
pub lowest_place : (words : List ℕ) (first : ℕ) → (get_or words first 0 ≡ 0 → ⊥) → get_or words first 0 < 2 ^ 64 → ((k : ℕ) → k < first → get_or words k 0 ≡ 0)
    → IsPlace words (64 * first + trailing_zeros w64 (get_or words first 0))
    × ((p : ℕ) → IsPlace words p → 64 * first + trailing_zeros w64 (get_or words first 0) ≤ p)
lowest_place words first some fits none =
    let lowest = bit_at-trailing_zeros w64 (get_or words first 0) (omega arith) fits in (
      (place_at words first (trailing_zeros w64 (get_or words first 0)) lowest.0).1 lowest.1,
      λ p place.
          let bit = (place_bit words p).0 place in
          elim (cases_lt p (64 * first + trailing_zeros w64 (get_or words first 0))) [
            | inl under ↦ absurd (elim (cases_lt (p / 64) first) [
              | inl before ↦ no_bit words (p / 64) (p % 64) (none (p / 64) before) bit
              | inr here ↦
                  let same : p / 64 ≡ first = omega arith in
                  let zero_bit = lowest.2 (p % 64) (omega arith) in
                  let one_bit : bit_at (get_or words first 0) (p % 64) ≡ 1 = rw same at bit in
                  omega arith
            ])
            | inr past ↦ past
          ],
    )
  where
    no_bit : (words : List ℕ) (k i : ℕ) → get_or words k 0 ≡ 0 → bit_at (get_or words k 0) i ≡ 1 → ⊥
    no_bit words k i none bit =
        let gone : bit_at (get_or words k 0) i ≡ 0 = ap (λ w. bit_at w i) none ∙ bit_at-zero i in omega arith

-- where all words are 0 there is no place
pub no_place : (words : List ℕ) → ((k : ℕ) → get_or words k 0 ≡ 0) → (p : ℕ) → IsPlace words p → ⊥
no_place words none p place =
    let bit = (place_bit words p).0 place in
    let gone : bit_at (get_or words (p / 64) 0) (p % 64) ≡ 0 = ap (λ w. bit_at w (p % 64)) (none (p / 64)) ∙ bit_at-zero (p % 64) in
    omega arith

-- the bits of a run
pub run_bits : (low high i : ℕ) → low < high → (bit_at (2 ^ high - 1 - (2 ^ low - 1)) i ≡ 1) ↔ ((low ≤ i) × (i < high))
run_bits low high i ordered =
    let ones : 2 ^ high - 1 - (2 ^ low - 1) ≡ 2 ^ high - 2 ^ low = omega (arith, one_up low) in
    rw ones (elim (cases_lt i low) [
      | inl under ↦ let none = bit_at_mask_below low high i under in (λ h. absurd (omega arith), λ h. absurd (omega (arith, h.0)))
      | inr from ↦ elim (cases_lt i high) [
        | inl below ↦ (λ h. (from, below), λ h. bit_at_mask_inside low high i from below)
        | inr past ↦ let none = bit_at_mask_above low high i past in (λ h. absurd (omega arith), λ h. absurd (omega (arith, h.1)))
      ]
    ])
  where
    one_up : (n : ℕ) → 1 ≤ 2 ^ n
    one_up n = search rules
