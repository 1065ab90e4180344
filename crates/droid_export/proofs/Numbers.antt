-- What `parse` gives for decimal digits is the number that they stand for, and the text of a number is read as it.
use Rattle.std.proofs.Common.{◌≡◌, ◌∙◌, ℕ, zero, suc, ◌^◌, ◌<◌, ◌&&◌, Bool, true, false, cond, List, [], ◌∷◌, get_or, length, ltb, Some, None, Result, Ok, Err, refl, sym, ap, arith, rules}
use Rattle.std.specs.Char.{is_ascii_digit}
use Rattle.std.specs.List.{list_all}
use Rattle.std.specs.Fmt.{decimal}
use Rattle.std.specs.Result.{OkIff, result_ok}
use Rattle.std.specs.Str.{IsAscii, IsUtf8}
use Rattle.std.specs.Str.Parse.{ParsesUnsigned, digits_value}
use Rattle.std.proofs.lemmas.Bool.{lt-ltb, ltb-true}
use Rattle.std.proofs.lemmas.Bool.Decides.{nat_tests}
use Rattle.std.proofs.lemmas.Fmt.{decimal_is_IsNumeral, digits_decimal, digits_value-decimal}
use Rattle.std.proofs.lemmas.Str.{IsUtf8-from_ascii}
use Rattle.std.proofs.lemmas.Str.Parse.{IsDigitsTest, IsNumeralModel, numerals_by_value, parse_digits}
use Rattle.droid_export.specs.Fields.{number_of}

-- digits are numerals
digits_test : IsDigitsTest (λ ds. list_all is_ascii_digit ds ≡ true)
digits_test = search rules

pub digits : IsNumeralModel (λ ds. list_all is_ascii_digit ds ≡ true) (digits_value 10)
digits = numerals_by_value _ digits_test

three_true : (a b c : Bool) (v : ℕ) → a ≡ true → b ≡ true → c ≡ true → cond (a && b && c) (Some v) None ≡ Some v
three_true true true true v p q r = refl
three_true true true false v p q r = absurd cc
three_true true false c v p q r = absurd cc
three_true false b c v p q r = absurd cc

not_three : (a b c : Bool) (v : ℕ) → ((a ≡ true) × (b ≡ true) × (c ≡ true) → ⊥) → cond (a && b && c) (Some v) None ≡ None
not_three true true true v never = absurd (never (refl, refl, refl))
not_three true true false v never = refl
not_three true false c v never = refl
not_three false b c v never = refl

number_from : {E : Type 0} (text : List ℕ) (r : Result ℕ E) → OkIff r ((0 < length text) × (digits_value 10 text < 2 ^ 64)) (digits_value 10 text) → list_all is_ascii_digit text ≡ true → result_ok r ≡ number_of text
number_from text (Ok x) h all =
    rw h.1 (sym (three_true (list_all is_ascii_digit text) (ltb 0 (length text)) (ltb (digits_value 10 text) (2 ^ 64)) (digits_value 10 text)
    all (lt-ltb 0 (length text) h.0.0) (lt-ltb (digits_value 10 text) (2 ^ 64) h.0.1)))
number_from text (Err e) h all =
    sym (not_three (list_all is_ascii_digit text) (ltb 0 (length text)) (ltb (digits_value 10 text) (2 ^ 64)) (digits_value 10 text)
    (λ each. h (ltb-true 0 (length text) each.1, ltb-true (digits_value 10 text) (2 ^ 64) each.2)))

pub number_parsed : {E : Type 0} (text : List ℕ) (r : Result ℕ E) → ParsesUnsigned 64 10 text r → list_all is_ascii_digit text ≡ true → result_ok r ≡ number_of text
number_parsed text r h all = number_from text r (parse_digits digits 64 text r h all) all

-- digits are text
small_by : (test : Bool) (b : ℕ) → is_ascii_digit b ≡ test → test ≡ true → b < 128
small_by true b is all = grind (arith, nat_tests)
small_by false b is all = cc

pub first_holds : (x y : Bool) → (x && y) ≡ true → (x ≡ true) × (y ≡ true)
first_holds true y h = (refl, h)
first_holds false y h = cc

ascii_at : (b : ℕ) (text : List ℕ) (i : ℕ) → b < 128 → IsAscii text → get_or (b ∷ text) i 0 < 128
ascii_at b text zero small rest = small
ascii_at b text (suc i) small rest = rest i

digits_ascii : (text : List ℕ) → list_all is_ascii_digit text ≡ true → IsAscii text
digits_ascii [] all = λ i. omega arith
digits_ascii (b ∷ text) all = λ i.
    let both = first_holds (is_ascii_digit b) (list_all is_ascii_digit text) all in
    ascii_at b text i (small_by (is_ascii_digit b) b refl both.0) (digits_ascii text both.1)

pub digits_utf8 : (text : List ℕ) → list_all is_ascii_digit text ≡ true → IsUtf8 text
digits_utf8 text all = IsUtf8-from_ascii text (digits_ascii text all)

-- ---- the text of a number is read as the number

pub decimal_read : (n : ℕ) → n < 2 ^ 64 → number_of (decimal n) ≡ Some n
decimal_read n below =
    let all = digits_decimal digits n below in
    let value = digits_value-decimal digits n below in
    let some = (decimal_is_IsNumeral n below).0.0 in
    three_true (list_all is_ascii_digit (decimal n)) (ltb 0 (length (decimal n))) (ltb (digits_value 10 (decimal n)) (2 ^ 64)) (digits_value 10 (decimal n))
    all (lt-ltb 0 (length (decimal n)) some) (lt-ltb (digits_value 10 (decimal n)) (2 ^ 64) (rw value below))
    ∙ ap Some value
