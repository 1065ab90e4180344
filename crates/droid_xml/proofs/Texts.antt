-- Bytes that are a text or a name, or none.
use Rattle.std.proofs.Common.{◌≡◌, ℕ, ◌-◌, ◌&&◌, Bool, true, false, List, length, take, drop, Option, Some, None, refl, sym, ap, ◌∙◌}
use Rattle.std.proofs.lemmas.List.{take_rest}
use Rattle.std.proofs.lemmas.Str.{IsUtf8-from_is_utf8, is_utf8-from_IsUtf8}
use Rattle.std.specs.List.{list_all, prefix_len}
use Rattle.std.specs.Str.{IsUtf8, is_utf8, chars}
use Rattle.droid_xml.specs.Bytes.{only_if}
use Rattle.droid_xml.specs.Characters.{is_char, text_in}
use Rattle.droid_xml.specs.Names.{are_of_name, is_name_byte, name_at}

by_test : (bytes : List ℕ) (test : Bool) → is_utf8 bytes ≡ test → ¬ IsUtf8 bytes → is_utf8 bytes ≡ false
by_test bytes true is fails = absurd (fails (IsUtf8-from_is_utf8 bytes is))
by_test bytes false is fails = is

is_no_utf8 : (bytes : List ℕ) → ¬ IsUtf8 bytes → is_utf8 bytes ≡ false
is_no_utf8 bytes fails = by_test bytes (is_utf8 bytes) refl fails

pub no_text : (bytes : List ℕ) → ¬ IsUtf8 bytes → None ≡ text_in bytes
unfolding text_in
no_text bytes fails = sym (ap (λ (b : Bool). only_if (b && list_all is_char (chars bytes)) bytes) (is_no_utf8 bytes fails))

pub a_text : (bytes text : List ℕ) (are : Bool) → text ≡ bytes → IsUtf8 bytes → are ≡ list_all is_char (chars text) → are ≡ true → Some text ≡ text_in bytes
unfolding text_in
a_text bytes text are same utf8 is holds =
    ap Some same
    ∙ sym (ap (λ (b : Bool). only_if (b && list_all is_char (chars bytes)) bytes) (is_utf8-from_IsUtf8 bytes utf8)
    ∙ ap (λ (b : Bool). only_if b bytes) (sym (ap (λ (t : List ℕ). list_all is_char (chars t)) same) ∙ (sym is ∙ holds)))

-- these bytes as a name, if they are one, and what follows
named : ℕ → List ℕ → Option (List ℕ × List ℕ)
named n text = only_if (is_utf8 (take n text) && are_of_name (chars (take n text))) (take n text, drop n text)

all_named : (text : List ℕ) (n : ℕ) → n ≡ prefix_len is_name_byte text → named n text ≡ name_at text
unfolding name_at named
all_named text n is = ap (λ (n : ℕ). named n text) is

pub no_name : (text : List ℕ) (n : ℕ) → n ≡ prefix_len is_name_byte text → ¬ IsUtf8 (take n text) → None ≡ name_at text
unfolding named
no_name text n is fails = sym (ap (λ (b : Bool). only_if (b && are_of_name (chars (take n text))) (take n text, drop n text)) (is_no_utf8 (take n text) fails)) ∙ all_named text n is

pub a_name : (text name : List ℕ) (n : ℕ) (are : Bool) → n ≡ prefix_len is_name_byte text → name ≡ take n text → IsUtf8 (take n text) → are ≡ are_of_name (chars name) → are ≡ true → Some (name, take (length text - n) (drop n text)) ≡ name_at text
unfolding named
a_name text name n are count same utf8 is holds =
    ap (λ (front : List ℕ). Some (front, take (length text - n) (drop n text))) same
    ∙ (ap (λ (rest : List ℕ). Some (take n text, rest)) (take_rest text n)
    ∙ (sym (ap (λ (b : Bool). only_if (b && are_of_name (chars (take n text))) (take n text, drop n text)) (is_utf8-from_IsUtf8 (take n text) utf8)
    ∙ ap (λ (b : Bool). only_if b (take n text, drop n text)) (sym (ap (λ (t : List ℕ). are_of_name (chars t)) same) ∙ (sym is ∙ holds)))
    ∙ all_named text n count))
