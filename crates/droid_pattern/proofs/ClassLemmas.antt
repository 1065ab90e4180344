-- The bit set of a class: the places whose next byte is in the class.
use Rattle.std.proofs.Common.{◌≡◌, ◌↔◌, ◌⊎◌, ℕ, ◌+◌, ◌*◌, ◌-◌, ◌/◌, ◌%◌, ◌^◌, ◌<◌, ◌≤◌, true, List, [], ◌∷◌, ◌++◌, length, get_or, w64, inl, inr, ⊎_elim, sym, ap, ◌∙◌, arith, length-append}
use Rattle.std.proofs.lemmas.Bool.{cases_lt, cases_eq, leb-true, le-leb, and_parts, and_from}
use Rattle.std.proofs.lemmas.List.{get_or_append_left, get_or-append_right}
use Rattle.std.proofs.lemmas.Nat.Bits.{bit_at_set_same, bit_at_set_other, bit_at-zero}
use Rattle.std.specs.Prelude.{bit_or, nat_le, ◌&&◌}
use Rattle.std.specs.Int.{bit_at}
use Rattle.droid_pattern.specs.Places.{IsPlace}
use Rattle.droid_pattern.proofs.BitLemmas.{place_same, place_bit}
use Rattle.droid_pattern.specs.declared.direction.Direction.{Direction}
use Rattle.droid_pattern.specs.declared.class.Class.{Class}
use Rattle.droid_pattern.specs.declared.class.Class.TheVariants as classes
use Rattle.droid_pattern.specs.Tokens.{accepts}
use Rattle.droid_pattern.specs.Positions.{IsSetOf, byte_behind}

-- a bit is set
set_bit : (word k j : ℕ) → k < 64 → (bit_at (bit_or word (1 * 2 ^ k % 2 ^ 64)) j ≡ 1) ↔ ((bit_at word j ≡ 1) ⊎ (j ≡ k))
set_bit word k j below =
    elim (cases_eq j k) [
      | inl same ↦ (λ h. inr same, λ h. rw same (bit_at_set_same w64 word k below))
      | inr other ↦
          let stays = bit_at_set_other w64 word k below j other in
          (λ h. inl (sym stays ∙ h), λ h. ⊎_elim (λ e. stays ∙ e) (λ e. absurd (other e)) h)
    ]

-- of the first `count` bits of a word those are set of which T holds; no later bit is set
abbrev pub HasBitsOf : (ℕ → Type 0) → ℕ → ℕ → Type 0
HasBitsOf T count word = (i : ℕ) → i < 64 → (bit_at word i ≡ 1) ↔ ((i < count) × T i)

pub bits_none : (T : ℕ → Type 0) → HasBitsOf T 0 0
bits_none T i below = (λ h. absurd (omega (arith, bit_at-zero i)), λ h. absurd (omega (arith, h.0)))

pub bits_set : (T : ℕ → Type 0) (count word : ℕ) → count < 64 → T count → HasBitsOf T count word → HasBitsOf T (count + 1) (bit_or word (1 * 2 ^ count % 2 ^ 64))
bits_set T count word small here so_far i below =
    let set = set_bit word count i small in (
      λ h. ⊎_elim (λ a. let w = (so_far i below).0 a in (omega (arith, w.0), w.1)) (λ e. (omega arith, rw e here)) (set.0 h),
      λ (near, w). elim (cases_lt i count) [ inl before ↦ set.1 (inl ((so_far i below).1 (before, w))) | inr from ↦ set.1 (inr (omega arith)) ],
    )

pub bits_unset : (T : ℕ → Type 0) (count word : ℕ) → (T count → ⊥) → HasBitsOf T count word → HasBitsOf T (count + 1) word
bits_unset T count word not_here so_far i below = (
  λ h. let w = (so_far i below).0 h in (omega (arith, w.0), w.1),
  λ (near, w). elim (cases_lt i count) [ inl before ↦ (so_far i below).1 (before, w) | inr from ↦ let same : i ≡ count = omega arith in absurd (not_here (rw same at w)) ],
)

-- no word yet
pub set_none : (way : Direction) (bytes : List ℕ) (class : Class) (bits : List ℕ) → bits ≡ [] → IsSetOf way bytes class bits
set_none way bytes class bits e p below = absurd (omega (arith, ap length e))

-- one more word
pub set_more : (way : Direction) (bytes : List ℕ) (class : Class) (bits : List ℕ) (word n : ℕ) → length bits ≡ n
    → ((i : ℕ) → i < 64 → (bit_at word i ≡ 1) ↔ ((64 * n + i < length bytes) × (accepts class (byte_behind way bytes (64 * n + i)) ≡ true)))
    → IsSetOf way bytes class bits → IsSetOf way bytes class (bits ++ word ∷ [])
set_more way bytes class bits word n len says so_far p below =
    elim (cases_lt (p / 64) n) [
      | inl before ↦
          let same = place_same (bits ++ word ∷ []) bits p (get_or_append_left bits (word ∷ []) 0 (p / 64) (omega arith)) in
          let old = so_far p (omega arith) in
          (λ h. old.0 (same.0 h), λ h. same.1 (old.1 h))
      | inr from ↦ set_last way bytes class bits word n p len from below says
    ]
  where
    set_last : (way : Direction) (bytes : List ℕ) (class : Class) (bits : List ℕ) (word n p : ℕ) → length bits ≡ n → n ≤ p / 64 → p < 64 * length (bits ++ word ∷ [])
        → ((i : ℕ) → i < 64 → (bit_at word i ≡ 1) ↔ ((64 * n + i < length bytes) × (accepts class (byte_behind way bytes (64 * n + i)) ≡ true)))
        → IsPlace (bits ++ word ∷ []) p ↔ ((p < length bytes) × (accepts class (byte_behind way bytes p) ≡ true))
    set_last way bytes class bits word n p len from below says =
        let long : length (bits ++ word ∷ []) ≡ length bits + 1 = length-append bits (word ∷ []) in
        let here : p / 64 ≡ n = omega arith in
        let whole : 64 * n + p % 64 ≡ p = omega arith in
        let none : p / 64 - n ≡ 0 = omega arith in
        let read : get_or (bits ++ word ∷ []) (p / 64) 0 ≡ word = get_or-append_right bits (word ∷ []) n (p / 64) 0 len from ∙ ap (λ k. get_or (word ∷ []) k 0) none in
        let bit = place_bit (bits ++ word ∷ []) p in
        let w = says (p % 64) (omega arith) in (
          λ h. rw whole at (w.0 (rw read at (bit.0 h))),
          λ h. bit.1 (rw read (w.1 (rw whole h))),
        )

-- the places that are kept
pub kept_by : (way : Direction) (bytes : List ℕ) (class wanted : Class) (old bits new : List ℕ) → class ≡ wanted → length old ≤ length bits → IsSetOf way bytes class bits
    → ((p : ℕ) → IsPlace old p → p < 64 * length old)
    → ((p : ℕ) → IsPlace new p ↔ (IsPlace old p × IsPlace bits p))
    → (p : ℕ) → IsPlace new p ↔ (IsPlace old p × (p < length bytes) × (accepts wanted (byte_behind way bytes p) ≡ true))
kept_by way bytes class wanted old bits new is long says inside both p = (
  λ h. let b = (both p).0 h in let near = inside p b.0 in let w = (says p (omega arith)).0 b.1 in (b.0, w.0, rw is at w.1),
  λ (there, near, passes). (both p).1 (there, (says p (let close = inside p there in omega arith)).1 (near, rw is passes)),
)

-- the places after a byte of the class
pub one_by : (way : Direction) (bytes : List ℕ) (class wanted : Class) (old bits new : List ℕ) → class ≡ wanted → length old ≤ length bits → IsSetOf way bytes class bits
    → ((p : ℕ) → IsPlace old p → p < 64 * length old)
    → ((q : ℕ) → IsPlace new q ↔ ((p : ℕ) × IsPlace old p × IsPlace bits p × (q ≡ p + 1)))
    → (q : ℕ) → IsPlace new q ↔ ((p : ℕ) × IsPlace old p × (q ≡ p + 1) × (p < length bytes) × (accepts wanted (byte_behind way bytes p) ≡ true))
one_by way bytes class wanted old bits new is long says inside both q = (
  λ h. let (p, there, kept, next) = (both q).0 h in let near = inside p there in let w = (says p (omega arith)).0 kept in (p, there, next, w.0, rw is at w.1),
  λ (p, there, next, near, passes). (both q).1 (p, there, (says p (let close = inside p there in omega arith)).1 (near, rw is passes), next),
)

-- a number of a range is one from its first number on, up to its last one
in_halves : (low high x : ℕ) → high < 256 → (nat_le low x && nat_le x high ≡ true) → (nat_le low x && nat_le x 255 ≡ true) × (nat_le 0 x && nat_le x high ≡ true)
in_halves low high x small passes =
    let both = and_parts (nat_le low x) (nat_le x high) passes in
    let under = leb-true x high both.1 in (
      and_from (nat_le low x) (nat_le x 255) both.0 (le-leb x 255 (omega arith)),
      and_from (nat_le 0 x) (nat_le x high) (le-leb 0 x (omega arith)) both.1,
    )

of_halves : (low high x : ℕ) → (nat_le low x && nat_le x 255 ≡ true) → (nat_le 0 x && nat_le x high ≡ true) → (nat_le low x && nat_le x high ≡ true)
of_halves low high x above below =
    and_from (nat_le low x) (nat_le x high) (and_parts (nat_le low x) (nat_le x 255) above).0 (and_parts (nat_le 0 x) (nat_le x high) below).1

-- so the places after a byte of a range come from two sets
pub one_range : (way : Direction) (bytes : List ℕ) (low high : ℕ) (old mid new : List ℕ) → high < 256
    → ((p : ℕ) → IsPlace mid p ↔ (IsPlace old p × (p < length bytes) × (accepts (classes.Range low 255) (byte_behind way bytes p) ≡ true)))
    → ((q : ℕ) → IsPlace new q ↔ ((p : ℕ) × IsPlace mid p × (q ≡ p + 1) × (p < length bytes) × (accepts (classes.Range 0 high) (byte_behind way bytes p) ≡ true)))
    → (q : ℕ) → IsPlace new q ↔ ((p : ℕ) × IsPlace old p × (q ≡ p + 1) × (p < length bytes) × (accepts (classes.Range low high) (byte_behind way bytes p) ≡ true))
one_range way bytes low high old mid new small keeps steps q = (
  λ h.
      let (p, there, next, near, below) = (steps q).0 h in
      let (place, inside, above) = (keeps p).0 there in
      (p, place, next, near, of_halves low high (byte_behind way bytes p) above below),
  λ (p, place, next, near, passes).
      let both = in_halves low high (byte_behind way bytes p) small passes in
      (steps q).1 (p, (keeps p).1 (place, near, both.0), next, near, both.1),
)
