-- What `parse` gives for a word with no `+` in front is the number that the word is.
use Rattle.std.proofs.Common.{◌≡◌, ℕ, ◌+◌, ◌^◌, ◌<◌, ◌≤◌, Bool, true, false, cond, ◌&&◌, ltb, eqb, List, [], ◌∷◌, length, drop, get_or, Some, None, Result, Ok, Err, refl, sym, inl, inr, arith}
use Rattle.std.specs.Prelude.{ℤ, pos, neg_ℤ, ◌≢◌}
use Rattle.std.specs.Int.{w64}
use Rattle.std.specs.Option.{option_map}
use Rattle.std.specs.Result.{OkIff, result_ok}
use Rattle.std.specs.Str.{all_ascii_digits}
use Rattle.std.specs.Str.Parse.{digits_value, ParsesUnsigned, ParsesSigned}
use Rattle.std.proofs.lemmas.Bool.{cases_eq, eq-eqb, ne_eqb, lt-ltb, ltb-true}
use Rattle.std.proofs.lemmas.Str.Parse.{IsNumeralModel, numerals_by_value, tells_all_ascii_digits, parse_plain, parse_signed_plain, parse_signed_minus}
use Rattle.droid_lines.specs.Words.{number_below, signed_number}

abbrev IsDigits : List ℕ → Type 0
IsDigits word = all_ascii_digits word ≡ true

digits : IsNumeralModel IsDigits (digits_value 10)
digits = numerals_by_value _ tells_all_ascii_digits

-- the value, where the three tests hold
test_true : (a b c : Bool) (v : ℕ) → a ≡ true → b ≡ true → c ≡ true → cond (a && b && c) (Some v) None ≡ Some v
test_true true true true v p q r = refl
test_true true true false v p q r = absurd cc
test_true true false c v p q r = absurd cc
test_true false b c v p q r = absurd cc

test_false : (a b c : Bool) (v : ℕ) → ((a ≡ true) × (b ≡ true) × (c ≡ true) → ⊥) → cond (a && b && c) (Some v) None ≡ None
test_false true true true v not = absurd (not (refl, refl, refl))
test_false true true false v not = refl
test_false true false c v not = refl
test_false false b c v not = refl

pub number_parsed : {E : Type 0} (bound : ℕ) (word : List ℕ) (r : Result ℕ E)
    → OkIff r (IsDigits word × (0 < length word) × (digits_value 10 word < bound)) (digits_value 10 word) → result_ok r ≡ number_below bound word
unfolding number_below
number_parsed bound word (Ok n) found =
    rw found.1 (sym (test_true (all_ascii_digits word) (ltb 0 (length word)) (ltb (digits_value 10 word) bound) (digits_value 10 word)
    found.0.0 (lt-ltb 0 (length word) found.0.1) (lt-ltb (digits_value 10 word) bound found.0.2)))
number_parsed bound word (Err e) not =
    sym (test_false (all_ascii_digits word) (ltb 0 (length word)) (ltb (digits_value 10 word) bound) (digits_value 10 word)
    (λ all. not (all.0, ltb-true 0 (length word) all.1, ltb-true (digits_value 10 word) bound all.2)))

-- a word with a `+` in front is no number
pub plus_is_none : (bound : ℕ) (word : List ℕ) → get_or word 0 0 ≡ 43 → None ≡ number_below bound word
unfolding number_below
plus_is_none bound [] e = absurd (omega arith)
plus_is_none bound (c ∷ cs) e = rw e refl

pub u32_parsed : {E : Type 0} (word : List ℕ) (r : Result ℕ E) → ParsesUnsigned 32 10 word r → get_or word 0 0 ≢ 43 → result_ok r ≡ number_below (2 ^ 32) word
u32_parsed word r h no_plus = number_parsed (2 ^ 32) word r (parse_plain digits 32 word r h no_plus)

pub u64_parsed : {E : Type 0} (word : List ℕ) (r : Result ℕ E) → ParsesUnsigned 64 10 word r → get_or word 0 0 ≢ 43 → result_ok r ≡ number_below (2 ^ 64) word
u64_parsed word r h no_plus = number_parsed (2 ^ 64) word r (parse_plain digits 64 word r h no_plus)

-- ---- signed numbers

-- a value of a number that was found
signed_parsed_by : {E : Type 0} (bound : ℕ) (word : List ℕ) (sign : ℕ → ℤ) (r : Result ℤ E)
    → OkIff r (IsDigits word × (0 < length word) × (digits_value 10 word < bound)) (sign (digits_value 10 word)) → result_ok r ≡ option_map sign (number_below bound word)
unfolding number_below
signed_parsed_by bound word sign (Ok n) found =
    rw (
      found.1,
      test_true (all_ascii_digits word) (ltb 0 (length word)) (ltb (digits_value 10 word) bound) (digits_value 10 word)
          found.0.0 (lt-ltb 0 (length word) found.0.1) (lt-ltb (digits_value 10 word) bound found.0.2),
    ) refl
signed_parsed_by bound word sign (Err e) not =
    rw (test_false (all_ascii_digits word) (ltb 0 (length word)) (ltb (digits_value 10 word) bound) (digits_value 10 word)
    (λ all. not (all.0, ltb-true 0 (length word) all.1, ltb-true (digits_value 10 word) bound all.2))) refl

at_most_is_below : {E : Type 0} (word : List ℕ) (r : Result ℤ E) (v : ℤ)
    → OkIff r (IsDigits word × (0 < length word) × (digits_value 10 word ≤ 2 ^ 63)) v
    → OkIff r (IsDigits word × (0 < length word) × (digits_value 10 word < 2 ^ 63 + 1)) v
at_most_is_below word (Ok n) v found = ((found.0.0, found.0.1, omega (arith, found.0.2)), found.1)
at_most_is_below word (Err e) v not = λ all. not (all.0, all.1, omega (arith, all.2))

pub i64_parsed : {E : Type 0} (word : List ℕ) (r : Result ℤ E) → ParsesSigned w64 10 word r → get_or word 0 0 ≢ 43 → result_ok r ≡ signed_number word
unfolding signed_number
i64_parsed word r h no_plus =
    elim (cases_eq (get_or word 0 0) 45) [
      | inl minus ↦ rw (eq-eqb (get_or word 0 0) 45 minus)
          (signed_parsed_by (2 ^ 63 + 1) (drop 1 word) (λ n. neg_ℤ (pos n)) r (at_most_is_below (drop 1 word) r _ (parse_signed_minus digits w64 word r h minus)))
      | inr other ↦ rw (ne_eqb (get_or word 0 0) 45 other)
          (signed_parsed_by (2 ^ 63) word pos r (parse_signed_plain digits w64 word r h no_plus other))
    ]

pub plus_is_no_signed : (word : List ℕ) → get_or word 0 0 ≡ 43 → None ≡ signed_number word
unfolding signed_number
plus_is_no_signed word e =
    let other : eqb (get_or word 0 0) 45 ≡ false = rw e refl in
    rw (other, ← plus_is_none (2 ^ 63) word e) refl
