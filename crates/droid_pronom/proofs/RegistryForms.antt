-- How the forms of fields follow from what std's calls say.
use Rattle.std.proofs.Common.{◌≡◌, ℕ, ◌<◌, ◌≤◌, ◌^◌, true, false, List, length, Result, Ok, Err, Some, refl, ap, inl, inr, nat_le, arith, rules}
use Rattle.std.specs.Result.{OkIff, result_ok}
use Rattle.std.specs.List.{list_all}
use Rattle.std.specs.Char.{is_ascii_digit}
use Rattle.std.specs.Str.Parse.{ParsesUnsigned, digits_value}
use Rattle.std.proofs.lemmas.Str.Parse.{IsNumeralModel, IsDigitsTest, numerals_by_value, parse_digits}
use Rattle.std.proofs.lemmas.Bool.Decides.{nat_tests, leb_tells}
use Rattle.droid_pronom.specs.RegistryFields.{has_bytes, number_of}

-- digits are numerals
digits_test : IsDigitsTest (λ ds. list_all is_ascii_digit ds ≡ true)
digits_test = search rules

digits : IsNumeralModel (λ ds. list_all is_ascii_digit ds ≡ true) (digits_value 10)
digits = numerals_by_value _ digits_test

fits : (n m : ℕ) → n ≤ m → nat_le n m ≡ true
fits n m h = grind (arith, nat_tests)

passes : (n m : ℕ) → (n ≤ m → ⊥) → nat_le n m ≡ false
passes n m h = elim (leb_tells n m) [ inl w ↦ absurd (h w.1) | inr w ↦ w.0 ]

at_least : (least most : ℕ) (text : List ℕ) → has_bytes least most text ≡ true → least ≤ length text
at_least least most text h = grind (arith, nat_tests)

number_from : {E : Type 0} (text : List ℕ) (r : Result ℕ E) → OkIff r ((0 < length text) × (digits_value 10 text < 2 ^ 16)) (digits_value 10 text)
    → has_bytes 1 5 text ≡ true → list_all is_ascii_digit text ≡ true → result_ok r ≡ number_of text
number_from text (Ok x) h short all =
    let small : digits_value 10 text < 65536 = h.0.1 in
    let top : nat_le (digits_value 10 text) 65535 ≡ true = fits _ 65535 (omega arith) in
    rw (short, all, top) (ap Some h.1)
number_from text (Err e) h short all =
    let some : 1 ≤ length text = at_least 1 5 text short in
    let top : nat_le (digits_value 10 text) 65535 ≡ false = passes _ 65535 (λ small. h (omega arith, omega arith)) in
    rw (short, all, top) refl

-- what `parse` gives for a text of 1 to 5 digits
pub number_parsed : {E : Type 0} (text : List ℕ) (r : Result ℕ E) → ParsesUnsigned 16 10 text r → has_bytes 1 5 text ≡ true → list_all is_ascii_digit text ≡ true → result_ok r ≡ number_of text
number_parsed text r h short all = number_from text r (parse_digits digits 16 text r h all) short all
