-- The text of a pattern is ASCII.
use Rattle.std.proofs.Common.{◌≡◌, ℕ, ◌<◌, ◌≤◌, List, [], ◌∷◌, ◌++◌, inl, inr, refl, sym, subst, arith}
use Rattle.std.specs.Prelude.{codes}
use Rattle.std.specs.Char.{digit_value}
use Rattle.std.specs.Str.{IsAscii, IsUtf8}
use Rattle.std.proofs.lemmas.Bool.{cases_lt, le-ltb}
use Rattle.std.proofs.lemmas.Str.{IsUtf8-from_ascii, IsAscii-append}
use Rattle.std.proofs.lemmas.Str.Ascii.{IsAscii-cons, IsAscii-nil, IsAscii-from_all}
use Rattle.std.proofs.lemmas.List.Elements.{All-weaker}
use Rattle.droid_pattern.specs.Patterns.{Element, Byte, AnyByte, Gap, OpenGap, Range, Except, Choice}
use Rattle.droid_pattern.specs.PatternText.{IsNumber, Spells, SpellsAll, SpellsBytes, SpellsChoice, SpellsElement, SpellsGap}

-- what is no ASCII is no digit
no_digit : (c : ℕ) → 128 ≤ c → digit_value c ≡ 36
no_digit c large = rw (le-ltb c 48 (omega arith), le-ltb c 58 (omega arith), le-ltb c 65 (omega arith), le-ltb c 91 (omega arith), le-ltb c 97 (omega arith), le-ltb c 123 (omega arith)) refl

digit_ascii : (c : ℕ) → digit_value c < 16 → c < 128
digit_ascii c small = elim (cases_lt c 128) [ inl below ↦ below | inr large ↦ let value = no_digit c large in absurd (omega arith) ]

same : (text other : List ℕ) → text ≡ other → IsAscii other → IsAscii text
same text other is ascii = subst IsAscii (sym is) ascii

one : (c : ℕ) → c < 128 → IsAscii (c ∷ [])
one c small = IsAscii-cons c [] small IsAscii-nil

between : (first last : ℕ) (body : List ℕ) → first < 128 → last < 128 → IsAscii body → IsAscii ((first ∷ []) ++ body ++ (last ∷ []))
between first last body small lesser ascii = IsAscii-append ((first ∷ []) ++ body) (last ∷ []) (IsAscii-append (first ∷ []) body (one first small) ascii) (one last lesser)

bytes_ascii : (text bytes : List ℕ) → SpellsBytes text bytes → IsAscii text
bytes_ascii text [] is = same text [] is IsAscii-nil
bytes_ascii text (b ∷ bytes) (high, low, rest, is, pair, more) =
    same text (high ∷ low ∷ rest) is (IsAscii-cons high (low ∷ rest) (digit_ascii high pair.0) (IsAscii-cons low rest (digit_ascii low pair.1) (bytes_ascii rest bytes more)))

number_ascii : (text : List ℕ) (n : ℕ) → IsNumber text n → IsAscii text
number_ascii text n is = IsAscii-from_all text (All-weaker (λ d. digit_value d < 10) (λ d. d < 128) (λ d small. digit_ascii d (omega arith)) text is.digits)

gap_ascii : (text : List ℕ) (n m : ℕ) → SpellsGap text n m → IsAscii text
gap_ascii text n m (inl (is, same_number)) = number_ascii text n is
gap_ascii text n m (inr (low, high, is, from, to, ordered)) =
    same text (low ++ (codes "-" ++ high)) is (IsAscii-append low (codes "-" ++ high) (number_ascii low n from) (IsAscii-append (codes "-") high (one 45 (omega arith)) (number_ascii high m to)))

choice_ascii : (text : List ℕ) (alternatives : List (List ℕ)) → SpellsChoice text alternatives → IsAscii text
choice_ascii text [] is = absurd is
choice_ascii text (a ∷ []) is = bytes_ascii text a is.0
choice_ascii text (a ∷ b ∷ more) (first, rest, is, here, others) =
    same text (first ++ (codes "|" ++ rest)) is (IsAscii-append first (codes "|" ++ rest) (bytes_ascii first a here.0) (IsAscii-append (codes "|") rest (one 124 (omega arith)) (choice_ascii rest (b ∷ more) others)))

two_ascii : (a b : ℕ) → a < 128 → b < 128 → IsAscii (a ∷ b ∷ [])
two_ascii a b small lesser = IsAscii-cons a (b ∷ []) small (one b lesser)

open_ascii : (text : List ℕ) (n : ℕ) → SpellsElement text (OpenGap n) → IsAscii text
open_ascii text n (inl (is, none)) = same text (42 ∷ []) is (one 42 (omega arith))
open_ascii text n (inr (digits, is, number)) =
    same text (codes "{" ++ digits ++ codes "-*}") is (IsAscii-append (codes "{" ++ digits) (codes "-*}") (IsAscii-append (codes "{") digits (one 123 (omega arith)) (number_ascii digits n number))
    (IsAscii-cons 45 (42 ∷ 125 ∷ []) (omega arith) (two_ascii 42 125 (omega arith) (omega arith))))

element_ascii : (text : List ℕ) (e : Element) → SpellsElement text e → IsAscii text
element_ascii text (Byte b) is = bytes_ascii text (b ∷ []) is
element_ascii text AnyByte is = same text (63 ∷ 63 ∷ []) is (two_ascii 63 63 (omega arith) (omega arith))
element_ascii text (Gap n m) (body, is, gap) = same text (codes "{" ++ body ++ codes "}") is (between 123 125 body (omega arith) (omega arith) (gap_ascii body n m gap))
element_ascii text (OpenGap n) is = open_ascii text n is
element_ascii text (Range low high) (from, to, is, lower, upper, ordered) =
    same text (codes "[" ++ from ++ (codes ":" ++ to) ++ codes "]") is
    (IsAscii-append (codes "[" ++ from ++ (codes ":" ++ to)) (codes "]")
    (IsAscii-append (codes "[" ++ from) (codes ":" ++ to) (IsAscii-append (codes "[") from (one 91 (omega arith)) (bytes_ascii from (low ∷ []) lower)) (IsAscii-append (codes ":") to (one 58 (omega arith)) (bytes_ascii to (high ∷ []) upper)))
    (one 93 (omega arith)))
element_ascii text (Except b) (digits, is, bytes) =
    same text (codes "[!" ++ digits ++ codes "]") is (IsAscii-append (codes "[!" ++ digits) (codes "]") (IsAscii-append (codes "[!") digits (two_ascii 91 33 (omega arith) (omega arith)) (bytes_ascii digits (b ∷ []) bytes)) (one 93 (omega arith)))
element_ascii text (Choice alternatives) (body, is, choice) = same text (codes "(" ++ body ++ codes ")") is (between 40 41 body (omega arith) (omega arith) (choice_ascii body alternatives choice))

all_ascii : (text : List ℕ) (es : List Element) → SpellsAll text es → IsAscii text
all_ascii text [] is = same text [] is IsAscii-nil
all_ascii text (e ∷ es) (front, back, is, here, more) = same text (front ++ back) is (IsAscii-append front back (element_ascii front e here) (all_ascii back es more))

pub spelled_utf8 : (text : List ℕ) (es : List Element) → Spells text es → IsUtf8 text
spelled_utf8 text es is = IsUtf8-from_ascii text (all_ascii text es is.elements)
