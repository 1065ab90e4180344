-- A number that is kept at its upper limit names no character, as the number itself does not.
use Rattle.std.proofs.Common.{◌≡◌, ℕ, ◌+◌, ◌*◌, ◌<◌, ◌≤◌, Bool, true, false, cond, eqb, ltb, min, suc, List, [], ◌∷◌, length, drop, get_or, Option, None, refl, sym, ap, ◌∙◌, inl, inr, drop-cons, add-one, arith}
use Rattle.std.proofs.lemmas.Bool.{cases_lt}
use Rattle.std.proofs.lemmas.Bool.Decides.{nat_tests}
use Rattle.std.specs.Char.{digit_value}
use Rattle.std.specs.Prelude.{◌⊎◌}
use Rattle.droid_xml.specs.Bytes.{◌>>=◌, only_if}
use Rattle.droid_xml.specs.Characters.{is_char}
use Rattle.droid_xml.specs.References.{more_digits, char_of, numbered}

no_char : (value : ℕ) → 0x11_0000 ≤ value → is_char value ≡ false
no_char value high = grind (arith, nat_tests)

grows : (value base digit : ℕ) → 1 ≤ base → 0x11_0000 ≤ value → 0x11_0000 ≤ value * base + digit
grows value base digit some high = grind arith

no_more : (base value digit : ℕ) (bytes : List ℕ) (is : Bool) → (more_digits base (value * base + digit) bytes >>= char_of) ≡ None → (cond is (more_digits base (value * base + digit) bytes) None >>= char_of) ≡ None
no_more base value digit bytes true none = none
no_more base value digit bytes false none = refl

pub too_high : (base : ℕ) (bytes : List ℕ) (value : ℕ) → 1 ≤ base → 0x11_0000 ≤ value → (more_digits base value bytes >>= char_of) ≡ None
too_high base [] value some high = ap (λ is. only_if is value) (no_char value high)
too_high base (b ∷ bytes) value some high = no_more base value (digit_value b) bytes (ltb (digit_value b) base) (too_high base bytes (value * base + digit_value b) some (grows value base (digit_value b) some high))

digit_here : (base value : ℕ) (b : ℕ) (bytes : List ℕ) → digit_value b < base → more_digits base value (b ∷ bytes) ≡ more_digits base (value * base + digit_value b) bytes
digit_here base value b bytes is = ap (λ t. cond t (more_digits base (value * base + digit_value b) bytes) None) (let test : ltb (digit_value b) base ≡ true = grind (arith, nat_tests) in test)

no_digit_here : (base value : ℕ) (b : ℕ) (bytes : List ℕ) → base ≤ digit_value b → more_digits base value (b ∷ bytes) ≡ None
no_digit_here base value b bytes is = ap (λ t. cond t (more_digits base (value * base + digit_value b) bytes) None) (let test : ltb (digit_value b) base ≡ false = grind (arith, nat_tests) in test)

kept : (base number : ℕ) (bytes : List ℕ) → 1 ≤ base → (number < 0x11_0000) ⊎ (0x11_0000 ≤ number) → (more_digits base (min number 0x11_0000) bytes >>= char_of) ≡ (more_digits base number bytes >>= char_of)
kept base number bytes some (inl low) = ap (λ n. more_digits base n bytes >>= char_of) (let is : min number 0x11_0000 ≡ number = omega arith in is)
kept base number bytes some (inr high) = ap (λ n. more_digits base n bytes >>= char_of) (let is : min number 0x11_0000 ≡ 0x11_0000 = omega arith in is) ∙ (too_high base bytes 0x11_0000 some (omega arith) ∙ sym (too_high base bytes number some high))

-- one digit more
pub digit_more : (base value : ℕ) (digits : List ℕ) (place : ℕ) (whole : Option ℕ) → 1 ≤ base → place < length digits → digit_value (get_or digits place 0) < base → (more_digits base value (drop place digits) >>= char_of) ≡ whole → (more_digits base (min (value * base + digit_value (get_or digits place 0)) 0x11_0000) (drop (place + 1) digits) >>= char_of) ≡ whole
digit_more base value digits place whole some inside is so_far =
    let cell : drop place digits ≡ get_or digits place 0 ∷ drop (place + 1) digits = rw (add-one, drop-cons digits place 0) refl in
    kept base (value * base + digit_value (get_or digits place 0)) (drop (place + 1) digits) some (cases_lt (value * base + digit_value (get_or digits place 0)) 0x11_0000)
    ∙ (ap (λ read. read >>= char_of) (sym (ap (more_digits base value) cell ∙ digit_here base value (get_or digits place 0) (drop (place + 1) digits) is)) ∙ so_far)

-- no digit of this base
pub digit_wrong : (base value : ℕ) (digits : List ℕ) (place : ℕ) (whole : Option ℕ) → place < length digits → base ≤ digit_value (get_or digits place 0) → (more_digits base value (drop place digits) >>= char_of) ≡ whole → None ≡ whole
digit_wrong base value digits place whole inside is so_far =
    let cell : drop place digits ≡ get_or digits place 0 ∷ drop (place + 1) digits = rw (add-one, drop-cons digits place 0) refl in
    ap (λ read. read >>= char_of) (sym (ap (more_digits base value) cell ∙ no_digit_here base value (get_or digits place 0) (drop (place + 1) digits) is)) ∙ so_far

pub digits_end : (base value : ℕ) (digits : List ℕ) (place : ℕ) (whole : Option ℕ) → drop place digits ≡ [] → (more_digits base value (drop place digits) >>= char_of) ≡ whole → char_of value ≡ whole
digits_end base value digits place whole past so_far = ap (λ rest. more_digits base value rest >>= char_of) (sym past) ∙ so_far

pub no_digits : (base : ℕ) (digits : List ℕ) → eqb (length digits) 0 ≡ true → numbered base digits ≡ None
unfolding numbered
no_digits base [] none = refl
no_digits base (b ∷ digits) none = absurd (let impossible : suc (length digits) ≡ 0 = grind (arith, nat_tests) in omega arith)

pub some_digits : (base : ℕ) (digits : List ℕ) → eqb (length digits) 0 ≡ false → numbered base digits ≡ (more_digits base 0 digits >>= char_of)
unfolding numbered
some_digits base [] some = absurd (let impossible : true ≡ false = some in cc)
some_digits base (b ∷ digits) some = refl
