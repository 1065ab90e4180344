-- Words with all places of a range.
use Rattle.std.proofs.Common.{◌≡◌, ◌↔◌, ℕ, zero, suc, ◌+◌, ◌*◌, ◌-◌, ◌/◌, ◌%◌, ◌<◌, ◌≤◌, List, [], ◌++◌, take, refl, length, get_or, set, replicate, inl, inr, ap, ◌∙◌, arith}
use Rattle.std.proofs.lemmas.Bool.{cases_lt, cases_eq}
use Rattle.std.proofs.lemmas.List.{get_or-set_same, get_or-set_other, get_or-replicate, length-replicate}
use Rattle.std.proofs.lemmas.Nat.Bits.{bit_at-zero}
use Rattle.std.specs.Prelude.{bit_and}
use Rattle.std.specs.Int.{bit_at}
use Rattle.droid_pattern.specs.Places.{IsPlace}
use Rattle.droid_pattern.proofs.BitLemmas.{place_below, place_same, place_bit, and_bits}

-- a word that is 0 has no place
zero_word : (words : List ℕ) (p : ℕ) → get_or words (p / 64) 0 ≡ 0 → IsPlace words p → ⊥
zero_word words p none place =
    let bit = (place_bit words p).0 place in
    let gone : bit_at (get_or words (p / 64) 0) (p % 64) ≡ 0 = ap (λ w. bit_at w (p % 64)) none ∙ bit_at-zero (p % 64) in
    omega arith

-- the words before the first place are 0, and its word is cut
pub front_cleared : (old now : List ℕ) (first run p : ℕ) → first / 64 < length now → ((j : ℕ) → j < first / 64 → get_or now j 0 ≡ 0)
    → ((j : ℕ) → first / 64 ≤ j → get_or now j 0 ≡ get_or old j 0)
    → ((i : ℕ) → i < 64 → (bit_at run i ≡ 1) ↔ ((first % 64 ≤ i) × (i < 64)))
    → IsPlace (set now (first / 64) (bit_and (get_or now (first / 64) 0) run)) p ↔ (IsPlace old p × (first ≤ p))
front_cleared old now first run p inside none stays says =
    let new : List ℕ = set now (first / 64) (bit_and (get_or now (first / 64) 0) run) in
    elim (cases_eq (p / 64) (first / 64)) [
      | inl same ↦
          let after = place_bit new p in
          let before = place_bit old p in
          let word : get_or new (p / 64) 0 ≡ bit_and (get_or now (p / 64) 0) run = rw same (get_or-set_same now (first / 64) (bit_and (get_or now (first / 64) 0) run) 0 inside) in
          let is : get_or now (p / 64) 0 ≡ get_or old (p / 64) 0 = stays (p / 64) (omega arith) in
          let both = and_bits (get_or now (p / 64) 0) run (p % 64) in
          let run_says = says (p % 64) (omega arith) in (
            λ h. let b = both.0 (rw word at (after.0 h)) in (before.1 (rw is at b.0), let near = (run_says.0 b.1).0 in omega arith),
            λ h. after.1 (rw word (both.1 (rw is (before.0 h.0), run_says.1 (let near = h.1 in omega arith, omega arith)))),
          )
      | inr other ↦
          let moved = get_or-set_other now (first / 64) (p / 64) (bit_and (get_or now (first / 64) 0) run) 0 other in
          elim (cases_lt (p / 64) (first / 64)) [
            | inl under ↦ (λ h. absurd (zero_word new p (moved ∙ none (p / 64) under) h), λ h. absurd (let near = h.1 in omega arith))
            | inr over ↦ let same = place_same new old p (moved ∙ stays (p / 64) (omega arith)) in (λ h. (same.0 h, omega arith), λ h. same.1 h.0)
          ]
    ]

-- all words lie before the first place
pub front_gone : (old now : List ℕ) (first p : ℕ) → length now ≡ length old → length now ≤ first / 64 → ((j : ℕ) → j < length now → get_or now j 0 ≡ 0)
    → IsPlace now p ↔ (IsPlace old p × (first ≤ p))
front_gone old now first p len few none = (
  λ h. let below = place_below now p h in absurd (zero_word now p (none (p / 64) (omega arith)) h),
  λ h. let below = place_below old p h.0 in absurd (let near = h.1 in omega arith),
)

-- what was put behind no word
pub refilled : (words : List ℕ) (n full : ℕ) → words ≡ take n [] ++ replicate (n - 0) full → words ≡ replicate n full
refilled words n full is =
    let none : take n [] ≡ [] = no_words n in
    let all : n - 0 ≡ n = omega arith in
    rw (none, all) at is
  where
    no_words : (n : ℕ) → take {A = ℕ} n [] ≡ []
    no_words zero = refl
    no_words (suc n) = refl

-- words with all places
pub full_places : (words : List ℕ) (n full p : ℕ) → words ≡ replicate n full → ((i : ℕ) → i < 64 → (bit_at full i ≡ 1) ↔ ((0 ≤ i) × (i < 64)))
    → IsPlace words p ↔ (p < 64 * n)
full_places words n full p is says =
    let bit = place_bit words p in
    let long : length words ≡ n = ap length is ∙ length-replicate n full in (
      λ h. let below = place_below words p h in omega arith,
      λ below.
          let word : get_or words (p / 64) 0 ≡ full = ap (λ xs. get_or xs (p / 64) 0) is ∙ get_or-replicate n (p / 64) full 0 (omega arith) in
          bit.1 (rw word ((says (p % 64) (omega arith)).1 (omega arith, omega arith))),
    )

-- all places, and then neither those before the first nor those past the last
pub between : (all front last : List ℕ) (low high : ℕ) → ((p : ℕ) → IsPlace all p ↔ (p < 64 * (high / 64 + 1)))
    → ((p : ℕ) → IsPlace front p ↔ (IsPlace all p × (low ≤ p))) → ((p : ℕ) → IsPlace last p ↔ (IsPlace front p × (p ≤ high)))
    → (p : ℕ) → IsPlace last p ↔ ((low ≤ p) × (p ≤ high))
between all front last low high whole from to p = (
  λ h. let t = (to p).0 h in let f = (from p).0 t.0 in (f.1, t.1),
  λ h. let near = h.1 in (to p).1 ((from p).1 ((whole p).1 (omega arith), h.0), h.1),
)
