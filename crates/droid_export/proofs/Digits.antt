-- Hexadecimal digits, decoded pair by pair.
use Rattle.std.proofs.Common.{◌≡◌, ◌∙◌, ℕ, ◌+◌, ◌*◌, ◌<◌, ◌≤◌, List, length, take, drop, slice_index, slice_set, Option, Some, None, Ok, max, refl, sym, ap, subst, arith}
use Rattle.std.proofs.Math.Nat.{le-max_left, le-max_right}
use Rattle.hex.proofs.Pairs.{decode_step, prepend}
use Rattle.hex.specs.Hex.{decode_pairs, digit_or_error, hex_digit_value, pair_value}
use Rattle.std.specs.Option.{unwrap_or}
use Rattle.droid_export.specs.ReadFields.{digit_of}

-- a digit below 16 is one
value_by : (digit : Option ℕ) (c i v : ℕ) → v ≡ unwrap_or digit 16 → v < 16 → digit_or_error c i digit ≡ Ok v
value_by None c i v is below = absurd (omega (arith, is, below))
value_by (Some x) c i v is below = ap Ok (sym is)

pub pair_read : (high low h l i : ℕ) → h ≡ digit_of high → l ≡ digit_of low → h < 16 → l < 16 → pair_value high low i ≡ Ok (h * 16 + l)
pair_read high low h l i is_h is_l below_h below_l =
    rw (value_by (hex_digit_value high) high i h is_h below_h, value_by (hex_digit_value low) low (i + 1) l is_l below_l) refl

-- where the greatest is a digit, all are
pub all_digits : (most m m' h l : ℕ) → m ≡ max most h → m' ≡ max m l → m' < 16 → (most < 16) × (h < 16) × (l < 16)
all_digits most m m' h l first second below =
    let with_low : m ≤ m' = subst (λ (k : ℕ). m ≤ k) (sym second) (le-max_left m l) in
    let low : l ≤ m' = subst (λ (k : ℕ). l ≤ k) (sym second) (le-max_right m l) in
    let before : most ≤ m = subst (λ (k : ℕ). most ≤ k) (sym first) (le-max_left most h) in
    let high : h ≤ m = subst (λ (k : ℕ). h ≤ k) (sym first) (le-max_right most h) in
    (omega (arith, with_low, before, below), omega (arith, with_low, high, below), omega (arith, low, below))

-- what was decoded so far, if all are digits
abbrev pub Decodes : ℕ → List ℕ → List ℕ → ℕ → Type 0
Decodes most text bytes n = most < 16 → decode_pairs 0 text ≡ prepend (take n bytes) (decode_pairs (2 * n) (drop (2 * n) text))

pub one_more : (most most' : ℕ) (text bytes : List ℕ) (n h l v : ℕ) → 2 * n + 1 < length text → n < length bytes
    → h ≡ digit_of (slice_index text (2 * n)) → l ≡ digit_of (slice_index text (2 * n + 1)) → (most' < 16 → (most < 16) × (h < 16) × (l < 16))
    → (h < 16 → l < 16 → v ≡ h * 16 + l) → Decodes most text bytes n → Decodes most' text (slice_set bytes n v) (n + 1)
one_more most most' text bytes n h l v fits room is_h is_l all is so_far below =
    let each = all below in
    let pair : pair_value (slice_index text (2 * n)) (slice_index text (2 * n + 1)) (2 * n) ≡ Ok v =
    pair_read (slice_index text (2 * n)) (slice_index text (2 * n + 1)) h l (2 * n) is_h is_l each.1 each.2 ∙ ap Ok (sym (is each.1 each.2)) in
    decode_step text bytes n v fits room pair (so_far each.0)
