-- The element at the front of a text.
use Rattle.std.proofs.Common.{◌≡◌, ◌⊎◌, ℕ, zero, suc, ◌<◌, ◌≤◌, List, [], ◌∷◌, ◌++◌, length, Contains, inl, inr, ⊎_elim, refl, sym, ap, ◌∙◌, arith, append_assoc}
use Rattle.std.proofs.lemmas.List.{append-nil, length-append}
use Rattle.std.proofs.lemmas.List.Elements.{Contains-append_cases}
use Rattle.std.specs.Char.{digit_value}
use Rattle.droid_pattern.specs.Patterns.{Element, Byte, AnyByte, Gap, OpenGap, Range, Except, Choice}
use Rattle.droid_pattern.specs.PatternText.{IsNumber, SpellsBytes, SpellsGap, SpellsChoice, SpellsElement, SpellsAll}
use Rattle.droid_pattern.specs.Fronts.{IsOnlyFront, HasNoFront, SpellsInPair, SpellsInBraces, SpellsInBrackets}
use Rattle.droid_pattern.proofs.TextLemmas.{first_mark, mark_between, number_has, no_dash, same_number, bytes_have, pair_text, same_byte, same_bytes, same_choice}

-- what stands in parentheses
abbrev pub SpellsInParentheses : List ℕ → Element → Type 0
SpellsInParentheses body e = (alternatives : List (List ℕ)) × (e ≡ Choice alternatives) × SpellsChoice body alternatives

-- the five forms of an element's text
data Shape (front : List ℕ) (e : Element) : Type 0 where
  star : front ≡ 42 ∷ [] → e ≡ OpenGap 0 → Shape front e
  two : (first second : ℕ) → front ≡ first ∷ second ∷ [] → SpellsInPair first second e → Shape front e
  braces : (body : List ℕ) → front ≡ 123 ∷ (body ++ (125 ∷ [])) → (Contains body 125 → ⊥) → SpellsInBraces body e → Shape front e
  brackets : (body : List ℕ) → front ≡ 91 ∷ (body ++ (93 ∷ [])) → (Contains body 93 → ⊥) → SpellsInBrackets body e → Shape front e
  parentheses : (body : List ℕ) → front ≡ 40 ∷ (body ++ (41 ∷ [])) → (Contains body 41 → ⊥) → SpellsInParentheses body e → Shape front e

-- an item of a list is the first or a later one
contains_cons : (x c : ℕ) (xs : List ℕ) → Contains (x ∷ xs) c → (x ≡ c) ⊎ Contains xs c
contains_cons x c xs (zero, below, is) = inl is
contains_cons x c xs (suc k, below, is) = inr (k, omega arith, is)

number_lacks : (digits : List ℕ) (n c : ℕ) → IsNumber digits n → 10 ≤ digit_value c → Contains digits c → ⊥
number_lacks digits n c number high is = let low = number_has digits n c number is in absurd (omega arith)

bytes_lack : (text bytes : List ℕ) (c : ℕ) → SpellsBytes text bytes → 16 ≤ digit_value c → Contains text c → ⊥
bytes_lack text bytes c spelled high is = let low = bytes_have bytes text c spelled is in absurd (omega arith)

-- two parts round a mark lack what they and the mark lack
parts_lack : (xs ys : List ℕ) (mark c : ℕ) → (Contains xs c → ⊥) → (Contains ys c → ⊥) → (mark ≡ c → ⊥) → Contains (xs ++ (mark ∷ ys)) c → ⊥
parts_lack xs ys mark c first second other is =
    ⊎_elim first (λ later. ⊎_elim other second (contains_cons mark c ys later)) (Contains-append_cases xs (mark ∷ ys) c is)

gap_lacks : (body : List ℕ) (n m : ℕ) → SpellsGap body n m → Contains body 125 → ⊥
gap_lacks body n m (inl one) = number_lacks body n 125 one.0 (omega arith)
gap_lacks body n m (inr (low, high, e, first, second, ordered)) =
    λ is. parts_lack low high 45 125 (number_lacks low n 125 first (omega arith)) (number_lacks high m 125 second (omega arith)) (λ h. absurd (omega arith)) (rw e at is)

choice_lacks : (alternatives : List (List ℕ)) (body : List ℕ) → SpellsChoice body alternatives → Contains body 41 → ⊥
choice_lacks [] body h = absurd h
choice_lacks (a ∷ []) body h = bytes_lack body a 41 h.0 (omega arith)
choice_lacks (a ∷ b ∷ more) body (first, rest, e, one, others) =
    λ is. parts_lack first rest 124 41 (bytes_lack first a 41 one.0 (omega arith)) (choice_lacks (b ∷ more) rest others) (λ h. absurd (omega arith)) (rw e at is)

shape_of : (e : Element) (front : List ℕ) → SpellsElement front e → Shape front e
shape_of (Byte b) front spelled = let (h, l, is, pair) = pair_text front b spelled in two h l is pair
shape_of AnyByte front spelled = two 63 63 spelled (refl, refl)
shape_of (Gap n m) front (body, is, gap) = braces body is (gap_lacks body n m gap) gap
shape_of (OpenGap n) front (inl (is, none)) = star is (ap OpenGap none)
shape_of (OpenGap n) front (inr (digits, is, number)) =
    braces (digits ++ (45 ∷ 42 ∷ [])) (is ∙ ap (λ x. 123 ∷ x) (sym (append_assoc digits (45 ∷ 42 ∷ []) (125 ∷ []))))
    (parts_lack digits (42 ∷ []) 45 125 (number_lacks digits n 125 number (omega arith)) (λ h. ⊎_elim (λ e. absurd (omega arith)) (λ (k, below, e). absurd (omega arith)) (contains_cons 42 125 [] h)) (λ h. absurd (omega arith)))
    (digits, refl, number)
shape_of (Range low high) front (from, to, is, first, second, ordered) =
    brackets (from ++ (58 ∷ to)) is
    (parts_lack from to 58 93 (bytes_lack from (low ∷ []) 93 first (omega arith)) (bytes_lack to (high ∷ []) 93 second (omega arith)) (λ h. absurd (omega arith)))
    (from, to, refl, first, second, ordered)
shape_of (Except b) front (digits, is, spelled) =
    brackets (33 ∷ digits) is (λ h. ⊎_elim (λ e. absurd (omega arith)) (bytes_lack digits (b ∷ []) 93 spelled (omega arith)) (contains_cons 33 93 digits h)) (digits, refl, spelled)
shape_of (Choice alternatives) front (body, is, choice) = parentheses body is (choice_lacks alternatives body choice) (alternatives, refl, choice)

-- the first items of equal lists, and the rest of them
heads : (x y : ℕ) (xs ys : List ℕ) → x ∷ xs ≡ y ∷ ys → (x ≡ y) × (xs ≡ ys)
heads x y xs ys e = (cc, cc)

-- two lists that begin with different items differ
apart : {B : Type 0} (x y : ℕ) (xs ys front rest : List ℕ) → (x ≡ y → ⊥) → front ≡ y ∷ ys → x ∷ xs ≡ front ++ rest → B
apart x y xs ys front rest other is e = absurd (other (heads x y xs (ys ++ rest) (e ∙ ap (λ z. z ++ rest) is)).0)

-- a text that begins with an opening mark has the body and the closing mark after it
after_open : (opening closing : ℕ) (after front body rest : List ℕ) → front ≡ opening ∷ (body ++ (closing ∷ [])) → opening ∷ after ≡ front ++ rest → after ≡ body ++ (closing ∷ rest)
after_open opening closing after front body rest is e =
    (heads opening opening after ((body ++ (closing ∷ [])) ++ rest) (e ∙ ap (λ z. z ++ rest) is)).1 ∙ append_assoc body (closing ∷ []) rest

-- what a text with this opening mark at its front begins with
abbrev pub Opens : ℕ → ℕ → (List ℕ → Element → Type 0) → Type 0
Opens opening closing Inside = (after : List ℕ) (e : Element) (front rest : List ℕ) → opening ∷ after ≡ front ++ rest → SpellsElement front e
    → (body : List ℕ) × (after ≡ body ++ (closing ∷ rest)) × (Contains body closing → ⊥) × Inside body e

-- the first of two characters of an element is a digit or a question mark
pair_first : (first second : ℕ) (e : Element) → SpellsInPair first second e → (digit_value first < 16) ⊎ (first ≡ 63)
pair_first first second (Byte b) pair = inl pair.0
pair_first first second AnyByte marks = inr marks.0
pair_first first second (Gap n m) h = absurd h
pair_first first second (OpenGap n) h = absurd h
pair_first first second (Range low high) h = absurd h
pair_first first second (Except b) h = absurd h
pair_first first second (Choice alternatives) h = absurd h

no_pair : {B : Type 0} (c : ℕ) → 16 ≤ digit_value c → (c ≡ 63 → ⊥) → (after front rest : List ℕ) (e : Element) (first second : ℕ) → front ≡ first ∷ second ∷ [] → SpellsInPair first second e → c ∷ after ≡ front ++ rest → B
no_pair c high other after front rest e first second is pair text =
    let same : c ≡ first = (heads c first after (second ∷ rest) (text ∙ ap (λ z. z ++ rest) is)).0 in
    ⊎_elim (λ low. absurd (let lower : digit_value c < 16 = rw same low in omega arith)) (λ mark. absurd (other (same ∙ mark))) (pair_first first second e pair)

pub opens_braces : Opens 123 125 SpellsInBraces
opens_braces after e front rest text spelled = go (shape_of e front spelled)
  where
    go : Shape front e → (body : List ℕ) × (after ≡ body ++ (125 ∷ rest)) × (Contains body 125 → ⊥) × SpellsInBraces body e
    go (braces body is lacks inside) = (body, after_open 123 125 after front body rest is text, lacks, inside)
    go (star is opening) = apart 123 42 after [] front rest (λ h. absurd (omega arith)) is text
    go (two first second is pair) = no_pair 123 (omega arith) (λ h. absurd (omega arith)) after front rest e first second is pair text
    go (brackets body is lacks inside) = apart 123 91 after (body ++ (93 ∷ [])) front rest (λ h. absurd (omega arith)) is text
    go (parentheses body is lacks inside) = apart 123 40 after (body ++ (41 ∷ [])) front rest (λ h. absurd (omega arith)) is text

pub opens_brackets : Opens 91 93 SpellsInBrackets
opens_brackets after e front rest text spelled = go (shape_of e front spelled)
  where
    go : Shape front e → (body : List ℕ) × (after ≡ body ++ (93 ∷ rest)) × (Contains body 93 → ⊥) × SpellsInBrackets body e
    go (brackets body is lacks inside) = (body, after_open 91 93 after front body rest is text, lacks, inside)
    go (star is opening) = apart 91 42 after [] front rest (λ h. absurd (omega arith)) is text
    go (two first second is pair) = no_pair 91 (omega arith) (λ h. absurd (omega arith)) after front rest e first second is pair text
    go (braces body is lacks inside) = apart 91 123 after (body ++ (125 ∷ [])) front rest (λ h. absurd (omega arith)) is text
    go (parentheses body is lacks inside) = apart 91 40 after (body ++ (41 ∷ [])) front rest (λ h. absurd (omega arith)) is text

pub opens_parentheses : Opens 40 41 SpellsInParentheses
opens_parentheses after e front rest text spelled = go (shape_of e front spelled)
  where
    go : Shape front e → (body : List ℕ) × (after ≡ body ++ (41 ∷ rest)) × (Contains body 41 → ⊥) × SpellsInParentheses body e
    go (parentheses body is lacks inside) = (body, after_open 40 41 after front body rest is text, lacks, inside)
    go (star is opening) = apart 40 42 after [] front rest (λ h. absurd (omega arith)) is text
    go (two first second is pair) = no_pair 40 (omega arith) (λ h. absurd (omega arith)) after front rest e first second is pair text
    go (braces body is lacks inside) = apart 40 123 after (body ++ (125 ∷ [])) front rest (λ h. absurd (omega arith)) is text
    go (brackets body is lacks inside) = apart 40 91 after (body ++ (93 ∷ [])) front rest (λ h. absurd (omega arith)) is text

begins_star : (after : List ℕ) (e : Element) (front rest : List ℕ) → 42 ∷ after ≡ front ++ rest → SpellsElement front e → (e ≡ OpenGap 0) × (rest ≡ after)
begins_star after e front rest text spelled = go (shape_of e front spelled)
  where
    go : Shape front e → (e ≡ OpenGap 0) × (rest ≡ after)
    go (star is opening) = (opening, sym (heads 42 42 after rest (text ∙ ap (λ z. z ++ rest) is)).1)
    go (two first second is pair) = no_pair 42 (omega arith) (λ h. absurd (omega arith)) after front rest e first second is pair text
    go (braces body is lacks inside) = apart 42 123 after (body ++ (125 ∷ [])) front rest (λ h. absurd (omega arith)) is text
    go (brackets body is lacks inside) = apart 42 91 after (body ++ (93 ∷ [])) front rest (λ h. absurd (omega arith)) is text
    go (parentheses body is lacks inside) = apart 42 40 after (body ++ (41 ∷ [])) front rest (λ h. absurd (omega arith)) is text

begins_two : (first : ℕ) → (first ≡ 42 → ⊥) → (first ≡ 123 → ⊥) → (first ≡ 91 → ⊥) → (first ≡ 40 → ⊥)
    → (after : List ℕ) (e : Element) (front rest : List ℕ) → first ∷ after ≡ front ++ rest → SpellsElement front e
    → (second : ℕ) × (after ≡ second ∷ rest) × SpellsInPair first second e
begins_two first a b c d after e front rest text spelled = go (shape_of e front spelled)
  where
    go : Shape front e → (second : ℕ) × (after ≡ second ∷ rest) × SpellsInPair first second e
    go (two first' second is pair) =
        let same = heads first first' after (second ∷ rest) (text ∙ ap (λ z. z ++ rest) is) in (second, same.1, rw same.0 pair)
    go (star is opening) = apart first 42 after [] front rest a is text
    go (braces body is lacks inside) = apart first 123 after (body ++ (125 ∷ [])) front rest b is text
    go (brackets body is lacks inside) = apart first 91 after (body ++ (93 ∷ [])) front rest c is text
    go (parentheses body is lacks inside) = apart first 40 after (body ++ (41 ∷ [])) front rest d is text

-- what stands between the marks is the text of an element
pub spells_braces : (body : List ℕ) (e : Element) → SpellsInBraces body e → SpellsElement (123 ∷ (body ++ (125 ∷ []))) e
spells_braces body (Gap n m) h = (body, refl, h)
spells_braces body (OpenGap n) (digits, is, number) =
    inr (digits, ap (λ x. 123 ∷ (x ++ (125 ∷ []))) is ∙ ap (λ x. 123 ∷ x) (append_assoc digits (45 ∷ 42 ∷ []) (125 ∷ [])), number)
spells_braces body (Byte b) h = absurd h
spells_braces body AnyByte h = absurd h
spells_braces body (Range low high) h = absurd h
spells_braces body (Except b) h = absurd h
spells_braces body (Choice alternatives) h = absurd h

pub spells_brackets : (body : List ℕ) (e : Element) → SpellsInBrackets body e → SpellsElement (91 ∷ (body ++ (93 ∷ []))) e
spells_brackets body (Range low high) (from, to, is, first, second, ordered) = (from, to, ap (λ x. 91 ∷ (x ++ (93 ∷ []))) is, first, second, ordered)
spells_brackets body (Except b) (digits, is, spelled) = (digits, ap (λ x. 91 ∷ (x ++ (93 ∷ []))) is, spelled)
spells_brackets body (Byte b) h = absurd h
spells_brackets body AnyByte h = absurd h
spells_brackets body (Gap n m) h = absurd h
spells_brackets body (OpenGap n) h = absurd h
spells_brackets body (Choice alternatives) h = absurd h

pub spells_parentheses : (body : List ℕ) (e : Element) → SpellsInParentheses body e → SpellsElement (40 ∷ (body ++ (41 ∷ []))) e
spells_parentheses body e (alternatives, is, choice) = rw is (body, refl, choice)

spells_two : (first second : ℕ) (e : Element) → SpellsInPair first second e → SpellsElement (first ∷ second ∷ []) e
spells_two first second (Byte b) pair = (first, second, [], refl, pair, refl)
spells_two first second AnyByte marks = rw (marks.0, marks.1) refl
spells_two first second (Gap n m) h = absurd h
spells_two first second (OpenGap n) h = absurd h
spells_two first second (Range low high) h = absurd h
spells_two first second (Except b) h = absurd h
spells_two first second (Choice alternatives) h = absurd h

-- and it stands for one element
same_gap : (body : List ℕ) (n m : ℕ) → SpellsGap body n m → (e : Element) → SpellsInBraces body e → e ≡ Gap n m
same_gap body n m (inl a) (Gap n' m') (inl b) =
    let least = same_number body n' n b.0 a.0 in let most : m' ≡ m = b.1 ∙ least ∙ sym a.1 in cc
same_gap body n m (inl a) (Gap n' m') (inr (low, high, e, first, second, ordered)) = absurd (no_dash body n a.0 (rw e (mark_between 45 low high)))
same_gap body n m (inr (low, high, e, first, second, ordered)) (Gap n' m') (inl b) = absurd (no_dash body n' b.0 (rw e (mark_between 45 low high)))
same_gap body n m (inr (low, high, e, first, second, ordered)) (Gap n' m') (inr (low', high', e', first', second', ordered')) =
    let parts = first_mark 45 low' low high' high (no_dash low' n' first') (no_dash low n first) (sym e' ∙ e) in
    let least = same_number low n' n (rw parts.0 at first') first in
    let most = same_number high m' m (rw parts.1 at second') second in cc
same_gap body n m (inl a) (OpenGap n') (digits, e, number) = absurd (no_dash body n a.0 (rw e (mark_between 45 digits (42 ∷ []))))
same_gap body n m (inr (low, high, e, first, second, ordered)) (OpenGap n') (digits, e', number) =
    let parts = first_mark 45 low digits high (42 ∷ []) (no_dash low n first) (no_dash digits n' number) (sym e ∙ e') in
    absurd (number_lacks high m 42 second (omega arith) (rw parts.1 (0, omega arith, refl)))
same_gap body n m gap (Byte b) h = absurd h
same_gap body n m gap AnyByte h = absurd h
same_gap body n m gap (Range low high) h = absurd h
same_gap body n m gap (Except b) h = absurd h
same_gap body n m gap (Choice alternatives) h = absurd h

pub same_braces : (body : List ℕ) (e e' : Element) → SpellsInBraces body e → SpellsInBraces body e' → e' ≡ e
same_braces body (Gap n m) e' h h' = same_gap body n m h e' h'
same_braces body (OpenGap n) (Gap n' m') h h' = sym (same_gap body n' m' h' (OpenGap n) h)
same_braces body (OpenGap n) (OpenGap n') (digits, e, number) (digits', e', number') =
    let parts = first_mark 45 digits' digits (42 ∷ []) (42 ∷ []) (no_dash digits' n' number') (no_dash digits n number) (sym e' ∙ e) in
    ap OpenGap (same_number digits n' n (rw parts.0 at number') number)
same_braces body (OpenGap n) (Byte b) h h' = absurd h'
same_braces body (OpenGap n) AnyByte h h' = absurd h'
same_braces body (OpenGap n) (Range low high) h h' = absurd h'
same_braces body (OpenGap n) (Except b) h h' = absurd h'
same_braces body (OpenGap n) (Choice alternatives) h h' = absurd h'
same_braces body (Byte b) e' h h' = absurd h
same_braces body AnyByte e' h h' = absurd h
same_braces body (Range low high) e' h h' = absurd h
same_braces body (Except b) e' h h' = absurd h
same_braces body (Choice alternatives) e' h h' = absurd h

-- a range and another byte differ in length
range_long : (body from to : List ℕ) (low high : ℕ) → body ≡ from ++ (58 ∷ to) → SpellsBytes from (low ∷ []) → SpellsBytes to (high ∷ []) → length body ≡ 5
range_long body from to low high e first second =
    let (h, l, front, pair) = pair_text from low first in
    let (h', l', back, pair') = pair_text to high second in
    ap length (e ∙ ap (λ x. x ++ (58 ∷ to)) front ∙ ap (λ x. h ∷ l ∷ 58 ∷ x) back)

except_short : (body digits : List ℕ) (b : ℕ) → body ≡ 33 ∷ digits → SpellsBytes digits (b ∷ []) → length body ≡ 3
except_short body digits b e spelled = let (h, l, pair, is) = pair_text digits b spelled in ap length (e ∙ ap (λ x. 33 ∷ x) pair)

one_item : (x y : ℕ) → x ∷ [] ≡ y ∷ [] → x ≡ y
one_item x y e = cc

pub same_brackets : (body : List ℕ) (e e' : Element) → SpellsInBrackets body e → SpellsInBrackets body e' → e' ≡ e
same_brackets body (Range low high) (Range low' high') (from, to, e, first, second, ordered) (from', to', e', first', second', ordered') =
    let parts = first_mark 58 from' from to' to (bytes_lack from' (low' ∷ []) 58 first' (omega arith)) (bytes_lack from (low ∷ []) 58 first (omega arith)) (sym e' ∙ e) in
    let bottom = one_item low' low (same_bytes (low' ∷ []) (low ∷ []) from (rw parts.0 at first') first) in
    let top = one_item high' high (same_bytes (high' ∷ []) (high ∷ []) to (rw parts.1 at second') second) in cc
same_brackets body (Range low high) (Except b) (from, to, e, first, second, ordered) (digits, e', spelled) =
    absurd (omega (arith, range_long body from to low high e first second, except_short body digits b e' spelled))
same_brackets body (Except b) (Range low high) (digits, e', spelled) (from, to, e, first, second, ordered) =
    absurd (omega (arith, range_long body from to low high e first second, except_short body digits b e' spelled))
same_brackets body (Except b) (Except b') (digits, e, spelled) (digits', e', spelled') =
    let tail = (heads 33 33 digits' digits (sym e' ∙ e)).1 in
    ap Except (one_item b' b (same_bytes (b' ∷ []) (b ∷ []) digits (rw tail at spelled') spelled))
same_brackets body (Range low high) (Byte b) h h' = absurd h'
same_brackets body (Range low high) AnyByte h h' = absurd h'
same_brackets body (Range low high) (Gap n m) h h' = absurd h'
same_brackets body (Range low high) (OpenGap n) h h' = absurd h'
same_brackets body (Range low high) (Choice alternatives) h h' = absurd h'
same_brackets body (Except b) (Byte b') h h' = absurd h'
same_brackets body (Except b) AnyByte h h' = absurd h'
same_brackets body (Except b) (Gap n m) h h' = absurd h'
same_brackets body (Except b) (OpenGap n) h h' = absurd h'
same_brackets body (Except b) (Choice alternatives) h h' = absurd h'
same_brackets body (Byte b) e' h h' = absurd h
same_brackets body AnyByte e' h h' = absurd h
same_brackets body (Gap n m) e' h h' = absurd h
same_brackets body (OpenGap n) e' h h' = absurd h
same_brackets body (Choice alternatives) e' h h' = absurd h

pub same_parentheses : (body : List ℕ) (e e' : Element) → SpellsInParentheses body e → SpellsInParentheses body e' → e' ≡ e
same_parentheses body e e' (alternatives, is, choice) (alternatives', is', choice') = is' ∙ ap Choice (same_choice alternatives' alternatives body choice' choice) ∙ sym is

same_two : (first second : ℕ) (e e' : Element) → SpellsInPair first second e → SpellsInPair first second e' → e' ≡ e
same_two first second (Byte b) (Byte b') h h' = ap Byte (same_byte first second b' b h' h)
same_two first second (Byte b) AnyByte h h' = absurd (let low : digit_value 63 < 16 = rw h'.0 at h.0 in omega arith)
same_two first second AnyByte (Byte b') h h' = absurd (let low : digit_value 63 < 16 = rw h.0 at h'.0 in omega arith)
same_two first second AnyByte AnyByte h h' = refl
same_two first second (Byte b) (Gap n m) h h' = absurd h'
same_two first second (Byte b) (OpenGap n) h h' = absurd h'
same_two first second (Byte b) (Range low high) h h' = absurd h'
same_two first second (Byte b) (Except b') h h' = absurd h'
same_two first second (Byte b) (Choice alternatives) h h' = absurd h'
same_two first second AnyByte (Gap n m) h h' = absurd h'
same_two first second AnyByte (OpenGap n) h h' = absurd h'
same_two first second AnyByte (Range low high) h h' = absurd h'
same_two first second AnyByte (Except b') h h' = absurd h'
same_two first second AnyByte (Choice alternatives) h h' = absurd h'
same_two first second (Gap n m) e' h h' = absurd h
same_two first second (OpenGap n) e' h h' = absurd h
same_two first second (Range low high) e' h h' = absurd h
same_two first second (Except b) e' h h' = absurd h
same_two first second (Choice alternatives) e' h h' = absurd h

-- The front of a text with an opening mark.
module _ (opening closing : ℕ) (Inside : List ℕ → Element → Type 0) (opens : Opens opening closing Inside) where
  pub marked_front : ((body : List ℕ) (e : Element) → Inside body e → SpellsElement (opening ∷ (body ++ (closing ∷ []))) e)
      → ((body : List ℕ) (e e' : Element) → Inside body e → Inside body e' → e' ≡ e)
      → (text after body rest : List ℕ) (e : Element) → text ≡ opening ∷ after → after ≡ body ++ (closing ∷ rest) → (Contains body closing → ⊥) → Inside body e → IsOnlyFront text e rest
  marked_front spells same text after body rest e is cut lacks inside = record {
    front = opening ∷ (body ++ (closing ∷ []));
    whole = is ∙ ap (λ x. opening ∷ x) (cut ∙ sym (append_assoc body (closing ∷ []) rest));
    spelled = spells body e inside;
    only = λ other start after' there spelled.
        let (body', cut', lacks', inside') = opens after other start after' (sym is ∙ there) spelled in
        let parts = first_mark closing body' body after' rest lacks' lacks (sym cut' ∙ cut) in
        (same body e other inside (rw parts.0 at inside'), parts.1);
  }

  -- no closing mark
  pub unmarked_front : (text after : List ℕ) → text ≡ opening ∷ after → (Contains after closing → ⊥) → HasNoFront text
  unmarked_front text after is lacks e front rest there spelled =
      let (body, cut, lacks', inside) = opens after e front rest (sym is ∙ there) spelled in
      lacks (rw cut (mark_between closing body rest))

  -- nothing of the grammar between the marks
  pub bad_front : (text after body rest : List ℕ) → text ≡ opening ∷ after → after ≡ body ++ (closing ∷ rest) → (Contains body closing → ⊥) → ((e : Element) → Inside body e → ⊥) → HasNoFront text
  bad_front text after body rest is cut lacks none e front rest' there spelled =
      let (body', cut', lacks', inside) = opens after e front rest' (sym is ∙ there) spelled in
      let parts = first_mark closing body' body rest' rest lacks' lacks (sym cut' ∙ cut) in
      none e (rw parts.0 at inside)

-- The front of a text with a star.
pub star_front : (text after : List ℕ) → text ≡ 42 ∷ after → IsOnlyFront text (OpenGap 0) after
star_front text after is = record {
  front = 42 ∷ [];
  whole = is;
  spelled = inl (refl, refl);
  only = λ other start after' there spelled. begins_star after other start after' (sym is ∙ there) spelled;
}

-- The front of a text with no mark: two characters.
module _ (first : ℕ) (a : first ≡ 42 → ⊥) (b : first ≡ 123 → ⊥) (c : first ≡ 91 → ⊥) (d : first ≡ 40 → ⊥) where
  pub two_front : (text after rest : List ℕ) (second : ℕ) (e : Element) → text ≡ first ∷ after → after ≡ second ∷ rest → SpellsInPair first second e → IsOnlyFront text e rest
  two_front text after rest second e is cut pair = record {
    front = first ∷ second ∷ [];
    whole = is ∙ ap (λ x. first ∷ x) cut;
    spelled = spells_two first second e pair;
    only = λ other start after' there spelled.
        let (second', cut', pair') = begins_two first a b c d after other start after' (sym is ∙ there) spelled in
        let parts = heads second' second after' rest (sym cut' ∙ cut) in
        (same_two first second e other pair (rw parts.0 at pair'), parts.1);
  }

  pub one_front : (text after : List ℕ) → text ≡ first ∷ after → after ≡ [] → HasNoFront text
  one_front text after is none e front rest there spelled =
      let (second, cut, pair) = begins_two first a b c d after e front rest (sym is ∙ there) spelled in
      let bad : [] ≡ second ∷ rest = sym none ∙ cut in cc

  pub no_two_front : (text after rest : List ℕ) (second : ℕ) → text ≡ first ∷ after → after ≡ second ∷ rest → ((e : Element) → SpellsInPair first second e → ⊥) → HasNoFront text
  no_two_front text after rest second is cut none e front rest' there spelled =
      let (second', cut', pair) = begins_two first a b c d after e front rest' (sym is ∙ there) spelled in
      let parts = heads second' second rest' rest (sym cut' ∙ cut) in none e (rw parts.0 at pair)

-- no element is written by nothing
pub some_text : (e : Element) (front : List ℕ) → SpellsElement front e → 0 < length front
some_text e front spelled = go (shape_of e front spelled)
  where
    go : Shape front e → 0 < length front
    go (star is opening) = omega (arith, ap length is)
    go (two first second is pair) = omega (arith, ap length is)
    go (braces body is lacks inside) = omega (arith, ap length is)
    go (brackets body is lacks inside) = omega (arith, ap length is)
    go (parentheses body is lacks inside) = omega (arith, ap length is)

-- What the rest spells completes what the text spells.
pub record TokensLeft (text : List ℕ) (done : List Element) (rest : List ℕ) : Type 0 where
  pub taken : (more : List Element) → SpellsAll rest more → SpellsAll text (done ++ more)
  pub only : (all : List Element) → SpellsAll text all → (more : List Element) × SpellsAll rest more × (all ≡ done ++ more)

pub tokens_start : (text : List ℕ) → TokensLeft text [] text
tokens_start text = record { taken = λ more h. h; only = λ all h. (all, h, refl) }

-- what a text with one element at its front spells
first_element : (rest after : List ℕ) (e : Element) → (rest ≡ [] → ⊥) → IsOnlyFront rest e after → (found : List Element) → SpellsAll rest found
    → (more : List Element) × (found ≡ e ∷ more) × SpellsAll after more
first_element rest after e some front [] none = absurd (some none)
first_element rest after e some front (e' ∷ more) (start, back, is, spelled, others) =
    let same = front.only e' start back is spelled in
    (more, ap (λ x. x ∷ more) same.0, rw same.1 at others)

pub tokens_next : (text : List ℕ) (done new : List Element) (rest after : List ℕ) (e : Element) → (rest ≡ [] → ⊥) → IsOnlyFront rest e after → new ≡ done ++ e ∷ []
    → TokensLeft text done rest → TokensLeft text new after
tokens_next text done new rest after e some front grown left = record {
  taken = λ more spelled.
      let joined : new ++ more ≡ done ++ (e ∷ more) = ap (λ x. x ++ more) grown ∙ append_assoc done (e ∷ []) more in
      rw joined (left.taken (e ∷ more) (front.front, after, front.whole, front.spelled, spelled));
  only = λ all spelled.
      let (found, there, is) = left.only all spelled in
      let (more, cons, others) = first_element rest after e some front found there in
      (more, others, is ∙ ap (λ x. done ++ x) cons ∙ sym (append_assoc done (e ∷ []) more) ∙ ap (λ x. x ++ more) (sym grown));
}

pub tokens_bad : (text : List ℕ) (done : List Element) (rest : List ℕ) → (rest ≡ [] → ⊥) → HasNoFront rest → TokensLeft text done rest → (es : List Element) → SpellsAll text es → ⊥
tokens_bad text done rest some none left all spelled = let (found, there, is) = left.only all spelled in go found there
  where
    go : (found : List Element) → SpellsAll rest found → ⊥
    go [] e = some e
    go (e ∷ more) (front, back, is, spelled', others) = none e front back is spelled'

pub tokens_shrink : (rest after : List ℕ) (e : Element) → IsOnlyFront rest e after → length after < length rest
tokens_shrink rest after e front = omega (arith, some_text e front.front front.spelled, ap length front.whole, length-append front.front after)

pub tokens_end : (text : List ℕ) (done : List Element) (rest : List ℕ) → rest ≡ [] → TokensLeft text done rest → SpellsAll text done
tokens_end text done rest none left = rw (append-nil done) at (left.taken [] none)

pub tokens_only : (text : List ℕ) (done : List Element) (rest : List ℕ) → rest ≡ [] → TokensLeft text done rest → (es : List Element) → SpellsAll text es → done ≡ es
tokens_only text done rest none left es spelled =
    let (found, there, is) = left.only es spelled in sym (is ∙ ap (λ x. done ++ x) (go found there) ∙ append-nil done)
  where
    go : (found : List Element) → SpellsAll rest found → found ≡ []
    go [] e = refl
    go (e ∷ more) (front, back, is', spelled', others) =
        absurd (omega (arith, some_text e front spelled', ap length (sym none ∙ is'), length-append front back))
