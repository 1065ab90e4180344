-- The text of patterns.
use Rattle.std.proofs.Common.{◌≡◌, ◌⊎◌, ℕ, zero, suc, ◌+◌, ◌-◌, ◌*◌, ◌<◌, ◌≤◌, ◌^◌, true, false, List, [], ◌∷◌, ◌++◌, length, take, drop, get_or, Contains, inl, inr, refl, sym, ap, ◌∙◌, arith, append_assoc}
use Rattle.std.proofs.lemmas.Bool.{false≢true, eqb-true}
use lib.Pointwise.{pointwise}
use lib.Dec.{eqb}
use Rattle.std.proofs.lemmas.List.{take_more, take_rest, append-nil}
use Rattle.std.proofs.lemmas.List.Elements.{All-contains, Contains-append_right}
use native.Mathlib.Numerals.{unary_clauses}
use Rattle.std.specs.Char.{digit_value}
use Rattle.droid_pattern.specs.Patterns.{Element, Byte, AnyByte, Gap, OpenGap, Range, Except, Choice}
use Rattle.droid_pattern.specs.PatternText.{IsPair, IsNumber, SpellsBytes, SpellsAlternative, SpellsChoice, decimal_after}
use Rattle.droid_pattern.specs.Fronts.{SpellsInBraces, SpellsInBrackets}

-- one more digit
pub decimal_push : (n : ℕ) (digits : List ℕ) (d : ℕ) → decimal_after n (digits ++ d ∷ []) ≡ 10 * decimal_after n digits + digit_value d
decimal_push n [] d = refl
decimal_push n (x ∷ digits) d = decimal_push (10 * n + digit_value x) digits d

pub decimal_more : (digits : List ℕ) (i : ℕ) → i < length digits → decimal_after 0 (take (i + 1) digits) ≡ 10 * decimal_after 0 (take i digits) + digit_value (get_or digits i 0)
decimal_more digits i below = ap (decimal_after 0) (take_more digits i 0 below) ∙ decimal_push 0 (take i digits) (get_or digits i 0)

-- a digit more is a factor of ten more
pub power_more : (v d i : ℕ) → v < 10 ^ i → d < 10 → 10 * v + d < 10 ^ (i + 1)
power_more v d i below digit = simp unary_clauses (omega arith)

-- one byte in digits
pub pair_text : (text : List ℕ) (b : ℕ) → SpellsBytes text (b ∷ []) → (high : ℕ) × (low : ℕ) × (text ≡ high ∷ low ∷ []) × IsPair high low b
pair_text text b (high, low, rest, e, pair, none) = (high, low, e ∙ ap (λ r. high ∷ low ∷ r) none, pair)

-- the two bytes of a range, by the positions of their digits
range_text : (body from to : List ℕ) (low high : ℕ) → body ≡ from ++ (58 ∷ to) → SpellsBytes from (low ∷ []) → SpellsBytes to (high ∷ [])
    → (length body ≡ 5) × IsPair (get_or body 0 0) (get_or body 1 0) low × IsPair (get_or body 3 0) (get_or body 4 0) high
range_text body from to low high e first second =
    let (h, l, front, pair) = pair_text from low first in
    let (h', l', back, pair') = pair_text to high second in
    let whole : body ≡ h ∷ l ∷ 58 ∷ h' ∷ l' ∷ [] = e ∙ ap (λ x. x ++ (58 ∷ to)) front ∙ ap (λ x. h ∷ l ∷ 58 ∷ x) back in
    rw whole (refl, pair, pair')

-- in brackets five characters long, the last two are a pair of digits
pub five_in_brackets : (body : List ℕ) → 5 ≤ length body → ((b : ℕ) → IsPair (get_or body 3 0) (get_or body 4 0) b → ⊥) → (e : Element) → SpellsInBrackets body e → ⊥
five_in_brackets body long none (Range low high) (from, to, e, first, second, ordered) = none high (range_text body from to low high e first second).2
five_in_brackets body long none (Except b) (digits, e, spelled) =
    let (h, l, pair, is) = pair_text digits b spelled in
    let whole : body ≡ 33 ∷ h ∷ l ∷ [] = e ∙ ap (λ x. 33 ∷ x) pair in
    let short : length body ≡ 3 = ap length whole in absurd (omega arith)
five_in_brackets body long none (Byte b) h = h
five_in_brackets body long none AnyByte h = h
five_in_brackets body long none (Gap n m) h = h
five_in_brackets body long none (OpenGap n) h = h
five_in_brackets body long none (Choice alternatives) h = h

-- what stands before the first of a mark, and after it
pub first_mark : (c : ℕ) (xs xs' ys ys' : List ℕ) → (Contains xs c → ⊥) → (Contains xs' c → ⊥) → xs ++ (c ∷ ys) ≡ xs' ++ (c ∷ ys') → (xs ≡ xs') × (ys ≡ ys')
first_mark c [] [] ys ys' none none' e = (refl, cc)
first_mark c [] (x ∷ xs') ys ys' none none' e = absurd (none' (0, omega arith, (let same : c ≡ x = cc in sym same)))
first_mark c (x ∷ xs) [] ys ys' none none' e = absurd (none (0, omega arith, (let same : x ≡ c = cc in same)))
first_mark c (x ∷ xs) (x' ∷ xs') ys ys' none none' e =
    let head : x ≡ x' = cc in
    let tail : xs ++ (c ∷ ys) ≡ xs' ++ (c ∷ ys') = cc in
    let more = first_mark c xs xs' ys ys' (λ (k, below, is). none (suc k, omega arith, is)) (λ (k, below, is). none' (suc k, omega arith, is)) tail in
    (let front = more.0 in cc, more.1)

-- the mark between two parts is in the whole
pub mark_between : (c : ℕ) (xs ys : List ℕ) → Contains (xs ++ (c ∷ ys)) c
mark_between c xs ys = Contains-append_right xs (c ∷ ys) c (0, omega arith, refl)

-- only digits are in a number
pub number_has : (digits : List ℕ) (n c : ℕ) → IsNumber digits n → Contains digits c → digit_value c < 10
number_has digits n c h is = All-contains (λ d. digit_value d < 10) digits c h.digits is

pub no_dash : (digits : List ℕ) (n : ℕ) → IsNumber digits n → Contains digits 45 → ⊥
no_dash digits n h is = let bad : digit_value 45 < 10 = number_has digits n 45 h is in absurd (omega arith)

-- digits stand for one number
pub same_number : (digits : List ℕ) (n m : ℕ) → IsNumber digits n → IsNumber digits m → n ≡ m
same_number digits n m a b = a.value ∙ sym b.value

-- in braces without a dash stands one number
pub undashed : (body : List ℕ) → (Contains body 45 → ⊥) → ((n : ℕ) → IsNumber body n → ⊥) → (e : Element) → SpellsInBraces body e → ⊥
undashed body dash none (Gap n m) (inl one) = none n one.0
undashed body dash none (Gap n m) (inr (low, high, e, first, second, ordered)) = dash (rw e (mark_between 45 low high))
undashed body dash none (OpenGap n) (digits, e, number) = dash (rw e (mark_between 45 digits (42 ∷ [])))
undashed body dash none (Byte b) h = h
undashed body dash none AnyByte h = h
undashed body dash none (Range low high) h = h
undashed body dash none (Except b) h = h
undashed body dash none (Choice alternatives) h = h

-- what stands in braces with a dash: a number, and a number that is no less or a star
pub record IsDashed (low high : List ℕ) : Type 0 where
  pub least : ℕ
  pub number : IsNumber low least
  pub after : ((m : ℕ) × IsNumber high m × (least ≤ m)) ⊎ (high ≡ 42 ∷ [])

pub dashed : (body low high : List ℕ) → body ≡ low ++ (45 ∷ high) → (Contains low 45 → ⊥) → (e : Element) → SpellsInBraces body e → IsDashed low high
dashed body low high is dash (Gap n m) (inl one) =
    absurd (no_dash body n one.0 (rw is (mark_between 45 low high)))
dashed body low high is dash (Gap n m) (inr (low', high', e, first, second, ordered)) =
    let same = first_mark 45 low' low high' high (no_dash low' n first) dash (sym e ∙ is) in
    record { least = n; number = rw same.0 at first; after = inl (m, rw same.1 at second, ordered) }
dashed body low high is dash (OpenGap n) (digits, e, number) =
    let same = first_mark 45 digits low (42 ∷ []) high (no_dash digits n number) dash (sym e ∙ is) in
    record { least = n; number = rw same.0 at number; after = inr (sym same.1) }
dashed body low high is dash (Byte b) h = absurd h
dashed body low high is dash AnyByte h = absurd h
dashed body low high is dash (Range low' high') h = absurd h
dashed body low high is dash (Except b) h = absurd h
dashed body low high is dash (Choice alternatives) h = absurd h

-- a star is no number
pub star_number : (n : ℕ) → IsNumber (42 ∷ []) n → ⊥
star_number n h = let bad : digit_value 42 < 10 = number_has (42 ∷ []) n 42 h (0, omega arith, refl) in absurd (omega arith)

-- what is no star by a test isn't one
pub no_star : (xs ys : List ℕ) → false ≡ pointwise eqb xs ys → ys ≡ 42 ∷ [] → xs ≡ 42 ∷ [] → ⊥
no_star xs ys test e e' = false≢true (test ∙ ap (λ zs. pointwise eqb zs ys) e' ∙ ap (pointwise eqb (42 ∷ [])) e)

-- a list with two items and more
pub two_and_rest : (xs : List ℕ) → 2 ≤ length xs → xs ≡ get_or xs 0 0 ∷ get_or xs 1 0 ∷ take (length xs - 2) (drop 2 xs)
two_and_rest [] long = absurd (omega arith)
two_and_rest (x ∷ []) long = absurd (omega arith)
two_and_rest (x ∷ y ∷ xs) long = ap (λ l. x ∷ y ∷ l) (sym (take_rest (x ∷ y ∷ xs) 2))

-- What the rest of the digits spells completes what all of them spell.
pub record BytesLeft (digits done rest : List ℕ) : Type 0 where
  pub taken : (more : List ℕ) → SpellsBytes rest more → SpellsBytes digits (done ++ more)
  pub only : (all : List ℕ) → SpellsBytes digits all → (more : List ℕ) × SpellsBytes rest more × (all ≡ done ++ more)

pub bytes_start : (digits : List ℕ) → BytesLeft digits [] digits
bytes_start digits = record { taken = λ more h. h; only = λ all h. (all, h, refl) }

-- a pair stands for one byte
pub same_byte : (h l a b : ℕ) → IsPair h l a → IsPair h l b → a ≡ b
same_byte h l a b x y = x.2 ∙ sym y.2

-- what a text that begins with two digits spells
pub first_byte : (rest after : List ℕ) (h l : ℕ) → rest ≡ h ∷ l ∷ after → (bytes : List ℕ) → SpellsBytes rest bytes → (b : ℕ) × (more : List ℕ) × (bytes ≡ b ∷ more) × IsPair h l b × SpellsBytes after more
first_byte rest after h l e [] none = let bad : [] ≡ h ∷ l ∷ after = sym none ∙ e in absurd cc
first_byte rest after h l e (b ∷ more) (h', l', after', e', pair, spelled) =
    let both : h ∷ l ∷ after ≡ h' ∷ l' ∷ after' = sym e ∙ e' in
    let high : h' ≡ h = cc in
    let low : l' ≡ l = cc in
    let tail : after' ≡ after = cc in
    (b, more, refl, rw (← high, ← low) pair, rw (← tail) spelled)

pub bytes_more : (digits done rest after new : List ℕ) (h l b : ℕ) → rest ≡ h ∷ l ∷ after → IsPair h l b → new ≡ done ++ b ∷ [] → BytesLeft digits done rest → BytesLeft digits new after
bytes_more digits done rest after new h l b e pair grown left = record {
  taken = λ more spelled.
      let joined : new ++ more ≡ done ++ (b ∷ more) = ap (λ x. x ++ more) grown ∙ append_assoc done (b ∷ []) more in
      rw joined (left.taken (b ∷ more) (h, l, after, e, pair, spelled));
  only = λ all spelled.
      let (found, there, is) = left.only all spelled in
      let (b', more, cons, pair', rest') = first_byte rest after h l e found there in
      let same : b' ≡ b = same_byte h l b' b pair' pair in
      (more, rest', is ∙ ap (λ x. done ++ x) (cons ∙ ap (λ x. x ∷ more) same) ∙ sym (append_assoc done (b ∷ []) more) ∙ ap (λ x. x ++ more) (sym grown));
}

-- no bytes are spelled where two characters are no pair of digits
pub bytes_bad : (digits done rest after : List ℕ) (h l : ℕ) → rest ≡ h ∷ l ∷ after → ((b : ℕ) → IsPair h l b → ⊥) → BytesLeft digits done rest
    → (all : List ℕ) → SpellsAlternative digits all → ⊥
bytes_bad digits done rest after h l e none left all spelled =
    let (found, there, is) = left.only all spelled.0 in
    let (b, more, cons, pair, rest') = first_byte rest after h l e found there in none b pair

-- nor where one character is left
pub bytes_odd : (digits done rest : List ℕ) → length rest < 2 → (rest ≡ [] → ⊥) → BytesLeft digits done rest → (all : List ℕ) → SpellsAlternative digits all → ⊥
bytes_odd digits done rest short some left all spelled = let (found, there, is) = left.only all spelled.0 in odd found there
  where
    odd : (found : List ℕ) → SpellsBytes rest found → ⊥
    odd [] e = some e
    odd (b ∷ more) (h, l, after, e, pair, spelled') = absurd (omega (arith, ap length e))

-- nor by no character
pub bytes_none : (digits : List ℕ) → digits ≡ [] → (all : List ℕ) → SpellsAlternative digits all → ⊥
bytes_none digits e [] spelled = absurd (omega (arith, spelled.1))
bytes_none digits e (b ∷ all) ((h, l, after, e', pair, more), long) = let bad : [] ≡ h ∷ l ∷ after = sym e ∙ e' in cc

-- with nothing left the digits spell the bytes so far
pub bytes_end : (digits done rest : List ℕ) → (digits ≡ [] → ⊥) → rest ≡ [] → BytesLeft digits done rest → SpellsAlternative digits done
bytes_end digits done rest some e left =
    let all = rw (append-nil done) at (left.taken [] e) in
    (all, long done all)
  where
    long : (done : List ℕ) → SpellsBytes digits done → 0 < length done
    long [] none = absurd (some none)
    long (b ∷ done) spelled = omega arith

-- a test for an empty list
pub is_none : {X : Type 0} (xs : List X) → true ≡ (eqb (length xs) 0) → xs ≡ []
is_none [] e = refl
is_none (x ∷ xs) e = absurd (let none = eqb-true (suc (length xs)) 0 (sym e) in omega arith)

pub is_some_list : {X : Type 0} (xs : List X) → false ≡ (eqb (length xs) 0) → xs ≡ [] → ⊥
is_some_list xs e none = false≢true (e ∙ ap (λ l. eqb (length l) 0) none)

-- only digits spell bytes
pub bytes_have : (bytes text : List ℕ) (c : ℕ) → SpellsBytes text bytes → Contains text c → digit_value c < 16
bytes_have [] text c e (k, below, is) = absurd (omega (arith, ap length e))
bytes_have (b ∷ bytes) text c (h, l, rest, e, pair, spelled) is = here (λ later. bytes_have bytes rest c spelled later) (rw e at is)
  where
    here : (Contains rest c → digit_value c < 16) → Contains (h ∷ l ∷ rest) c → digit_value c < 16
    here others (zero, below, at_first) = rw (← at_first) pair.0
    here others (suc zero, below, at_second) = rw (← at_second) pair.1
    here others (suc (suc k), below, at_later) = others (k, omega arith, at_later)

pub no_bar : (text bytes : List ℕ) → SpellsBytes text bytes → Contains text 124 → ⊥
no_bar text bytes spelled is = let bad : digit_value 124 < 16 = bytes_have bytes text 124 spelled is in absurd (omega arith)

-- a text spells the bytes of one list at most
pub same_bytes : (xs ys text : List ℕ) → SpellsBytes text xs → SpellsBytes text ys → xs ≡ ys
same_bytes [] [] text a b = refl
same_bytes [] (y ∷ ys) text a (h, l, rest, e, pair, spelled) = let bad : [] ≡ h ∷ l ∷ rest = sym a ∙ e in cc
same_bytes (x ∷ xs) [] text (h, l, rest, e, pair, spelled) b = let bad : [] ≡ h ∷ l ∷ rest = sym b ∙ e in cc
same_bytes (x ∷ xs) (y ∷ ys) text (h, l, rest, e, pair, spelled) b =
    let (y', more, cons, pair', spelled') = first_byte text rest h l e (y ∷ ys) b in
    let byte : x ≡ y' = same_byte h l x y' pair pair' in
    let tail : xs ≡ more = same_bytes xs more rest spelled spelled' in
    ap (λ z. z ∷ xs) byte ∙ ap (λ zs. y' ∷ zs) tail ∙ sym cons

-- What the rest spells completes what the body spells.
pub record ChoiceLeft (body : List ℕ) (done : List (List ℕ)) (rest : List ℕ) : Type 0 where
  pub taken : (more : List (List ℕ)) → SpellsChoice rest more → SpellsChoice body (done ++ more)
  pub only : (all : List (List ℕ)) → SpellsChoice body all → (more : List (List ℕ)) × SpellsChoice rest more × (all ≡ done ++ more)

pub choice_start : (body : List ℕ) → ChoiceLeft body [] body
choice_start body = record { taken = λ more h. h; only = λ all h. (all, h, refl) }

-- what a text with a bar spells: an alternative before the bar, and more after it
first_alternative : (rest first after : List ℕ) → rest ≡ first ++ (124 ∷ after) → (Contains first 124 → ⊥) → (found : List (List ℕ)) → SpellsChoice rest found
    → (a : List ℕ) × (more : List (List ℕ)) × (found ≡ a ∷ more) × SpellsAlternative first a × SpellsChoice after more
first_alternative rest first after e bar [] h = absurd h
first_alternative rest first after e bar (a ∷ []) h = absurd (no_bar rest a h.0 (rw e (mark_between 124 first after)))
first_alternative rest first after e bar (a ∷ b ∷ more) (first', after', e', one, others) =
    let same = first_mark 124 first' first after' after (no_bar first' a one.0) bar (sym e' ∙ e) in
    (a, b ∷ more, refl, rw same.0 at one, rw same.1 at others)

-- and a text with no bar spells one
one_alternative : (rest : List ℕ) → (Contains rest 124 → ⊥) → (found : List (List ℕ)) → SpellsChoice rest found → (a : List ℕ) × (found ≡ a ∷ []) × SpellsAlternative rest a
one_alternative rest bar [] h = absurd h
one_alternative rest bar (a ∷ []) h = (a, refl, h)
one_alternative rest bar (a ∷ b ∷ more) (first, after, e, one, others) = absurd (bar (rw e (mark_between 124 first after)))

with_first : (rest first after a : List ℕ) → rest ≡ first ++ (124 ∷ after) → SpellsAlternative first a → (more : List (List ℕ)) → SpellsChoice after more → SpellsChoice rest (a ∷ more)
with_first rest first after a e one [] h = absurd h
with_first rest first after a e one (b ∷ more) h = (first, after, e, one, h)

pub choice_next : (body : List ℕ) (done new : List (List ℕ)) (rest first after a : List ℕ) → rest ≡ first ++ (124 ∷ after) → (Contains first 124 → ⊥)
    → SpellsAlternative first a → new ≡ done ++ a ∷ [] → ChoiceLeft body done rest → ChoiceLeft body new after
choice_next body done new rest first after a e bar one grown left = record {
  taken = λ more spelled.
      let joined : new ++ more ≡ done ++ (a ∷ more) = ap (λ x. x ++ more) grown ∙ append_assoc done (a ∷ []) more in
      rw joined (left.taken (a ∷ more) (with_first rest first after a e one more spelled));
  only = λ all spelled.
      let (found, there, is) = left.only all spelled in
      let (a', more, cons, one', others) = first_alternative rest first after e bar found there in
      let same : a' ≡ a = same_bytes a' a first one'.0 one.0 in
      (more, others, is ∙ ap (λ x. done ++ x) (cons ∙ ap (λ x. x ∷ more) same) ∙ sym (append_assoc done (a ∷ []) more) ∙ ap (λ x. x ++ more) (sym grown));
}

pub choice_bad : (body : List ℕ) (done : List (List ℕ)) (rest first after : List ℕ) → rest ≡ first ++ (124 ∷ after) → (Contains first 124 → ⊥)
    → ((bs : List ℕ) → SpellsAlternative first bs → ⊥) → ChoiceLeft body done rest → (found : List (List ℕ)) → SpellsChoice body found → ⊥
choice_bad body done rest first after e bar none left all spelled =
    let (found, there, is) = left.only all spelled in
    let (a, more, cons, one, others) = first_alternative rest first after e bar found there in none a one

pub choice_last_bad : (body : List ℕ) (done : List (List ℕ)) (rest : List ℕ) → (Contains rest 124 → ⊥)
    → ((bs : List ℕ) → SpellsAlternative rest bs → ⊥) → ChoiceLeft body done rest → (found : List (List ℕ)) → SpellsChoice body found → ⊥
choice_last_bad body done rest bar none left all spelled =
    let (found, there, is) = left.only all spelled in
    let (a, cons, one) = one_alternative rest bar found there in none a one

pub choice_end : (body : List ℕ) (done new : List (List ℕ)) (rest a : List ℕ) → SpellsAlternative rest a → new ≡ done ++ a ∷ [] → ChoiceLeft body done rest → SpellsChoice body new
choice_end body done new rest a one grown left = rw grown (left.taken (a ∷ []) one)

-- a body spells one list of alternatives at most
pub same_choice : (xs ys : List (List ℕ)) (text : List ℕ) → SpellsChoice text xs → SpellsChoice text ys → xs ≡ ys
same_choice [] ys text h h' = absurd h
same_choice (a ∷ []) ys text h h' =
    let (b, is, one) = one_alternative text (no_bar text a h.0) ys h' in
    ap (λ z. z ∷ []) (same_bytes a b text h.0 one.0) ∙ sym is
same_choice (a ∷ b ∷ xs) ys text (first, after, e, one, others) h' =
    let (c, more, cons, one', others') = first_alternative text first after e (no_bar first a one.0) ys h' in
    ap (λ z. z ∷ b ∷ xs) (same_bytes a c first one.0 one'.0) ∙ ap (λ zs. c ∷ zs) (same_choice (b ∷ xs) more after others others') ∙ sym cons
