-- What is a number, and what is none.
use Rattle.std.proofs.Common.{◌≡◌, ℕ, zero, suc, ◌<◌, ◌≤◌, ◌^◌, Bool, true, false, List, length, refl, arith, rules, ⊎_elim}
use Rattle.std.specs.Prelude.{◌&&◌, ◌==◌, nat_lt, Ok, Err}
use Rattle.std.specs.Char.{is_ascii_digit}
use Rattle.std.specs.List.{list_all}
use Rattle.std.specs.Str.Parse.{digits_value}
use Rattle.std.proofs.lemmas.Bool.{and_from, cases_order, false≢true, le-ltb, lt-ltb}
use Rattle.std.proofs.lemmas.Str.Parse.{IsNumeralModel, numerals_by_value}
use Rattle.droid_signature_file.specs.Signatures.{is_number, number}
use Rattle.droid_signature_file.specs.declared.fault.Wrong.TheVariants as wrongs

-- digits, and the number that they stand for
pub own : IsNumeralModel (λ ds. list_all is_ascii_digit ds ≡ true) (digits_value 10)
own = numerals_by_value (λ ds. list_all is_ascii_digit ds ≡ true) (search rules)

both_false : (a b : Bool) → a ≡ false → (a && b) ≡ false
both_false a b is = rw is refl

second_false : (a b : Bool) → b ≡ false → (a && b) ≡ false
second_false true b is = is
second_false false b is = refl

pub is_read : (text : List ℕ) → 0 < length text → list_all is_ascii_digit text ≡ true → digits_value 10 text < 2 ^ 32 → number text ≡ Ok (digits_value 10 text)
unfolding number
is_read text some digits small =
    let test : is_number text ≡ true =
    and_from (nat_lt 0 (length text) && list_all is_ascii_digit text) (nat_lt (digits_value 10 text) (2 ^ 32))
    (and_from (nat_lt 0 (length text)) (list_all is_ascii_digit text) (lt-ltb 0 (length text) some) digits) (lt-ltb (digits_value 10 text) (2 ^ 32) small) in
    rw test refl

not_read : (text : List ℕ) → is_number text ≡ false → number text ≡ Err wrongs.Number
unfolding number
not_read text test = rw test refl

pub nothing_read : (text : List ℕ) → length text ≡ 0 → number text ≡ Err wrongs.Number
nothing_read text none =
    not_read text
    (both_false (nat_lt 0 (length text) && list_all is_ascii_digit text) (nat_lt (digits_value 10 text) (2 ^ 32))
    (both_false (nat_lt 0 (length text)) (list_all is_ascii_digit text) (le-ltb 0 (length text) (omega (arith, none)))))

pub others_not_read : (text : List ℕ) → list_all is_ascii_digit text ≡ false → number text ≡ Err wrongs.Number
others_not_read text test =
    not_read text
    (both_false (nat_lt 0 (length text) && list_all is_ascii_digit text) (nat_lt (digits_value 10 text) (2 ^ 32))
    (second_false (nat_lt 0 (length text)) (list_all is_ascii_digit text) test))

pub large_not_read : (text : List ℕ) → 2 ^ 32 ≤ digits_value 10 text → number text ≡ Err wrongs.Number
large_not_read text large =
    not_read text
    (second_false (nat_lt 0 (length text) && list_all is_ascii_digit text) (nat_lt (digits_value 10 text) (2 ^ 32)) (le-ltb (digits_value 10 text) (2 ^ 32) large))

pub unfit_not_read : (text : List ℕ) → 0 < length text → ((0 < length text) × (digits_value 10 text < 2 ^ 32) → ⊥) → number text ≡ Err wrongs.Number
unfit_not_read text some unfit =
    ⊎_elim (λ same. large_not_read text (omega (arith, same)))
    (λ other. ⊎_elim (λ small. absurd (unfit (some, small))) (λ large. large_not_read text (omega (arith, large))) other)
    (cases_order (digits_value 10 text) (2 ^ 32))

pub some_by : (n : ℕ) → false ≡ (n == 0) → 0 < n
some_by zero is = absurd (false≢true is)
some_by (suc n) is = omega arith
