-- The words in front of a line: a client, a number, and the version.
use Rattle.std.proofs.Common.{◌≡◌, ℕ, zero, suc, ◌+◌, ◌<◌, ◌≤◌, ◌⊎◌, Bool, true, false, cond, codes, ◌&&◌, ltb, List, [], ◌∷◌, ◌++◌, length, get_or, take, drop, Option, Some, None, refl, sym, ap, subst, ◌∙◌, inl, inr, arith, append_assoc, length-append}
use Rattle.std.specs.Prelude.{slice_index}
use Rattle.std.specs.List.{AllByRecursion, after_first, before_first, position_or_len}
use Rattle.std.specs.Str.{IsUtf8, is_utf8, all_ascii_digits, bytes_eq}
use Rattle.std.specs.Char.{is_ascii_digit}
use Rattle.std.specs.Str.Parse.{digits_value}
use Rattle.std.proofs.lemmas.Bool.{and_parts, eqb-true, leb-true, lt-ltb, ltb-true, ne_eqb}
use Rattle.std.proofs.lemmas.List.{drop_at}
use Rattle.std.proofs.lemmas.List.Sums.{split_at_first, passes_at_first}
use Rattle.std.proofs.lemmas.Slice.Eq.{bytes_eq-Decides}
use Rattle.std.proofs.lemmas.Str.{IsUtf8-append, IsUtf8-from_ascii, IsUtf8-from_is_utf8, IsUtf8-past_char, encode_ascii, is_utf8-from_IsUtf8}
use Rattle.std.proofs.Math.Seq.{take-append_seam}
use Rattle.droid_lines.specs.InFront.{with_words}
use Rattle.droid_lines.specs.Lines.{version_at, version_by}
use Rattle.droid_lines.specs.Words.{cut_at, is_byte, number_below, word_at}

-- ---- digits

digit_parts : (c : ℕ) → is_ascii_digit c ≡ true → (48 ≤ c) × (c ≤ 57)
digit_parts c is = let parts = and_parts _ _ is in (leb-true 48 c parts.0, leb-true c 57 parts.1)

-- the word of a number has digits only
digits_of : (a b c : Bool) (v n : ℕ) → cond (a && b && c) (Some v) None ≡ Some n → a ≡ true
digits_of true b c v n is = refl
digits_of false b c v n is = absurd cc

pub number_has_digits : (bound : ℕ) (word : List ℕ) (n : ℕ) → number_below bound word ≡ Some n → all_ascii_digits word ≡ true
unfolding number_below
number_has_digits bound word n is = digits_of (all_ascii_digits word) (ltb 0 (length word)) (ltb (digits_value 10 word) bound) (digits_value 10 word) n is

-- ---- the cut at the first space

-- a word has no space
abbrev pub HasNoSpace : List ℕ → Type 0
HasNoSpace word = AllByRecursion (λ c. is_byte 32 c ≡ false) word

pub digits_are_a_word : (word : List ℕ) → all_ascii_digits word ≡ true → HasNoSpace word
digits_are_a_word [] digits = tt
digits_are_a_word (c ∷ cs) digits =
    let parts = and_parts (is_ascii_digit c) (all_ascii_digits cs) digits in
    let digit = digit_parts c parts.0 in
    (ne_eqb c 32 (λ e. absurd (omega (arith, e, digit.0))), digits_are_a_word cs parts.1)

space_here : (word rest : List ℕ) → HasNoSpace word → position_or_len (is_byte 32) (word ++ 32 ∷ rest) ≡ length word
space_here [] rest plain = refl
space_here (c ∷ cs) rest plain = rw (plain.0, space_here cs rest plain.1) (omega arith)

drop_here : (word rest : List ℕ) → drop (length word + 1) (word ++ 32 ∷ rest) ≡ rest
drop_here word rest =
    ap (λ (l : List ℕ). drop (length word + 1) l) (sym (append_assoc word (32 ∷ []) rest)) ∙ drop_at (word ++ 32 ∷ []) rest (length word + 1) (omega (arith, length-append word (32 ∷ [])))

pub word_here : (word rest : List ℕ) → HasNoSpace word → word_at (word ++ 32 ∷ rest) ≡ Some (word, rest)
unfolding cut_at
word_here word rest plain =
    let place = space_here word rest plain in
    let within : ltb (length word) (length (word ++ 32 ∷ rest)) ≡ true = lt-ltb (length word) (length (word ++ 32 ∷ rest)) (omega (arith, length-append word (32 ∷ rest))) in
    let front : take (length word) (word ++ 32 ∷ rest) ≡ word = take-append_seam word (32 ∷ rest) in
    let after : drop (length word + 1) (word ++ 32 ∷ rest) ≡ rest = drop_here word rest in
    rw (place, within, front, after) refl

-- ---- text

same_test : (a b : Bool) → (a ≡ true → b ≡ true) → (b ≡ true → a ≡ true) → a ≡ b
same_test true b to from = sym (to refl)
same_test false true to from = from refl
same_test false false to from = refl

ascii_alone : (c : ℕ) (i : ℕ) → c < 128 → slice_index (c ∷ []) i < 128
ascii_alone c zero low = low
ascii_alone c (suc i) low = omega arith

push_ascii : (c : ℕ) (rest : List ℕ) → c < 128 → IsUtf8 rest → IsUtf8 (c ∷ rest)
push_ascii c rest low utf8 = IsUtf8-append (c ∷ []) rest (IsUtf8-from_ascii (c ∷ []) (λ i. ascii_alone c i low)) utf8

past_ascii : (c : ℕ) (rest : List ℕ) → c < 128 → IsUtf8 (c ∷ rest) → IsUtf8 rest
past_ascii c rest low utf8 = IsUtf8-past_char (c ∷ rest) rest c utf8 (sym (ap (λ (l : List ℕ). l ++ rest) (encode_ascii c low)))

push_digits : (word rest : List ℕ) → all_ascii_digits word ≡ true → IsUtf8 rest → IsUtf8 (word ++ rest)
push_digits [] rest digits utf8 = utf8
push_digits (c ∷ cs) rest digits utf8 =
    let parts = and_parts (is_ascii_digit c) (all_ascii_digits cs) digits in
    let digit = digit_parts c parts.0 in
    push_ascii c (cs ++ rest) (omega (arith, digit.1)) (push_digits cs rest parts.1 utf8)

past_digits : (word rest : List ℕ) → all_ascii_digits word ≡ true → IsUtf8 (word ++ rest) → IsUtf8 rest
past_digits [] rest digits utf8 = utf8
past_digits (c ∷ cs) rest digits utf8 =
    let parts = and_parts (is_ascii_digit c) (all_ascii_digits cs) digits in
    let digit = digit_parts c parts.0 in
    past_digits cs rest parts.1 (past_ascii c (cs ++ rest) (omega (arith, digit.1)) utf8)

pub text_the_same : (client number line : List ℕ) → all_ascii_digits client ≡ true → all_ascii_digits number ≡ true → is_utf8 (with_words client number line) ≡ is_utf8 line
text_the_same client number line c n =
    same_test (is_utf8 (with_words client number line)) (is_utf8 line)
    (λ is.
    let all = IsUtf8-from_is_utf8 (with_words client number line) is in
    let rest = past_ascii 32 (number ++ (32 ∷ line)) (omega arith) (past_digits client _ c all) in
    is_utf8-from_IsUtf8 line (past_ascii 32 line (omega arith) (past_digits number _ n rest)))
    (λ is.
    let last = push_ascii 32 line (omega arith) (IsUtf8-from_is_utf8 line is) in
    let rest = push_ascii 32 (number ++ (32 ∷ line)) (omega arith) (push_digits number (32 ∷ line) n last) in
    is_utf8-from_IsUtf8 (with_words client number line) (push_digits client (32 ∷ (number ++ (32 ∷ line))) c rest))

-- the words of version 2 change nothing in what is text
pub marked_the_same : (rest : List ℕ) → is_utf8 (codes "v2 " ++ rest) ≡ is_utf8 rest
marked_the_same rest =
    same_test (is_utf8 (codes "v2 " ++ rest)) (is_utf8 rest)
    (λ is.
    let all = IsUtf8-from_is_utf8 (codes "v2 " ++ rest) is in
    let two = past_ascii 118 (50 ∷ (32 ∷ rest)) (omega arith) all in
    let one = past_ascii 50 (32 ∷ rest) (omega arith) two in
    is_utf8-from_IsUtf8 rest (past_ascii 32 rest (omega arith) one))
    (λ is.
    let one = push_ascii 32 rest (omega arith) (IsUtf8-from_is_utf8 rest is) in
    let two = push_ascii 50 (32 ∷ rest) (omega arith) one in
    is_utf8-from_IsUtf8 (codes "v2 " ++ rest) (push_ascii 118 (50 ∷ (32 ∷ rest)) (omega arith) two))

-- ---- the version of a line

-- a line that begins with `v2 ` is one of version 2
pub version_2_here : (rest : List ℕ) → version_at (codes "v2 " ++ rest) ≡ (2, rest)
unfolding version_at
version_2_here rest =
    ap (version_by (codes "v2 " ++ rest)) (word_here (codes "v2") rest (refl, (refl, tt)))
    ∙ ap (λ (b : Bool). cond b (2, rest) (1, codes "v2 " ++ rest)) ((bytes_eq-Decides (codes "v2") (codes "v2")).1 refl)

-- digits aren't the word of version 2
digits_no_version : (same : Bool) (word : List ℕ) → bytes_eq word (codes "v2") ≡ same → all_ascii_digits word ≡ true → same ≡ false
digits_no_version false word is digits = refl
digits_no_version true word is digits =
    let named : word ≡ codes "v2" = (bytes_eq-Decides word (codes "v2")).0 is in
    let no : all_ascii_digits (codes "v2") ≡ true = subst (λ (w : List ℕ). all_ascii_digits w ≡ true) named digits in
    absurd cc

-- a line with a client in front is one of version 1
pub version_1_here : (word rest : List ℕ) → all_ascii_digits word ≡ true → version_at (word ++ 32 ∷ rest) ≡ (1, word ++ 32 ∷ rest)
unfolding version_at
version_1_here word rest digits =
    ap (version_by (word ++ 32 ∷ rest)) (word_here word rest (digits_are_a_word word digits))
    ∙ ap (λ (b : Bool). cond b (2, rest) (1, word ++ 32 ∷ rest)) (digits_no_version (bytes_eq word (codes "v2")) word refl digits)

same_pair : (one other : List ℕ × List ℕ) → ◌≡◌ {A = Option (List ℕ × List ℕ)} (Some one) (Some other) → one ≡ other
same_pair one other is = cc

-- a word that was cut off, and what stands after it, are the text
cut_parts : (b : Bool) (text word rest : List ℕ) → ltb (position_or_len (is_byte 32) text) (length text) ≡ b
    → cond {A = Option (List ℕ × List ℕ)} b (Some (before_first (is_byte 32) text, after_first (is_byte 32) text)) None ≡ Some (word, rest) → text ≡ word ++ 32 ∷ rest
cut_parts true text word rest within is =
    let place = position_or_len (is_byte 32) text in
    let below = ltb-true place (length text) within in
    let split = split_at_first (is_byte 32) text 0 below in
    let space : get_or text place 0 ≡ 32 = eqb-true (get_or text place 0) 32 (passes_at_first (is_byte 32) text 0 below) in
    let pair = same_pair (before_first (is_byte 32) text, after_first (is_byte 32) text) (word, rest) is in
    let front : before_first (is_byte 32) text ≡ word = ap (λ (p : List ℕ × List ℕ). p.0) pair in
    let after : after_first (is_byte 32) text ≡ rest = ap (λ (p : List ℕ × List ℕ). p.1) pair in
    split ∙ rw (space, front, after) refl
cut_parts false text word rest within is = absurd cc

word_parts : (text word rest : List ℕ) → word_at text ≡ Some (word, rest) → text ≡ word ++ 32 ∷ rest
unfolding cut_at
word_parts text word rest is = cut_parts _ text word rest refl is

-- a line is one of version 1 as it stands, or one of version 2 after its `v2 `
abbrev pub IsVersion1 : List ℕ → Type 0
IsVersion1 line = version_at line ≡ (1, line)

pub record IsVersion2 (line : List ℕ) : Type 0 where
  pub rest : List ℕ
  pub cut : version_at line ≡ (2, rest)
  pub whole : line ≡ codes "v2 " ++ rest

version_of_word : (same : Bool) (line word rest : List ℕ) → bytes_eq word (codes "v2") ≡ same → line ≡ word ++ 32 ∷ rest → version_at line ≡ cond same (2, rest) (1, line) → IsVersion1 line ⊎ IsVersion2 line
version_of_word true line word rest is whole cut =
    let named : word ≡ codes "v2" = (bytes_eq-Decides word (codes "v2")).0 is in
    inr (record { rest = rest; cut = cut; whole = whole ∙ ap (λ (w : List ℕ). w ++ 32 ∷ rest) named })
version_of_word false line word rest is whole cut = inl cut

version_of_found : (line : List ℕ) (found : Option (List ℕ × List ℕ)) → word_at line ≡ found → version_at line ≡ version_by line found → IsVersion1 line ⊎ IsVersion2 line
version_of_found line None is cut = inl cut
version_of_found line (Some word) is cut = version_of_word (bytes_eq word.0 (codes "v2")) line word.0 word.1 refl (word_parts line word.0 word.1 is) cut

pub version_cases : (line : List ℕ) → IsVersion1 line ⊎ IsVersion2 line
unfolding version_at
version_cases line = version_of_found line (word_at line) refl refl
