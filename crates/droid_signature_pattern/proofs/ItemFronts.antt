-- The item at the front of a text.
use Rattle.std.proofs.Common.{◌≡◌, ◌≢◌, ◌⊎◌, ℕ, zero, suc, ◌+◌, ◌*◌, ◌<◌, ◌≤◌, List, [], ◌∷◌, ◌++◌, length, Contains, inl, inr, ⊎_elim, refl, sym, subst, ap, ◌∙◌, arith, append_assoc}
use Rattle.std.specs.List.{AllByRecursion}
use Rattle.std.specs.Char.{digit_value}
use Rattle.std.proofs.lemmas.Bool.{cases_eq}
use Rattle.std.proofs.lemmas.List.{append-nil, length-append}
use Rattle.std.proofs.lemmas.List.Elements.{Contains-append_cases}
use Rattle.droid_pattern.specs.Patterns.{Element, Byte, AnyByte, Gap, OpenGap, Range, Except, Choice}
use Rattle.droid_pattern.specs.PatternText.{SpellsBytes, SpellsElement}
use Rattle.droid_pattern.specs.Fronts.{SpellsInPair, SpellsInBraces, SpellsInBrackets}
use Rattle.droid_pattern.proofs.TextLemmas.{first_mark, mark_between, bytes_have, pair_text, same_bytes}
use Rattle.droid_pattern.proofs.FrontLemmas as element
use Rattle.droid_signature_file.specs.Terms.{Atom, Plain, Outside, Between, Quoted}
use Rattle.droid_signature_file.specs.TermText.{IsPlain, AreBounds, IsQuotable, SpellsAtom}
use Rattle.droid_signature_pattern.specs.TextFronts.{IsOnlyFront, HasNoFront, InPair, InBraces, InBrackets, InQuotes}

-- an item of a list is the first or a later one
pub contains_cons : (x c : ℕ) (xs : List ℕ) → Contains (x ∷ xs) c → (x ≡ c) ⊎ Contains xs c
contains_cons x c xs (zero, below, is) = inl is
contains_cons x c xs (suc k, below, is) = inr (k, omega arith, is)

bytes_lack : (text bytes : List ℕ) (c : ℕ) → SpellsBytes text bytes → 16 ≤ digit_value c → Contains text c → ⊥
bytes_lack text bytes c spelled high is = let low = bytes_have bytes text c spelled is in absurd (omega arith)

-- two parts round a mark lack what they and the mark lack
parts_lack : (xs ys : List ℕ) (mark c : ℕ) → (Contains xs c → ⊥) → (Contains ys c → ⊥) → (mark ≡ c → ⊥) → Contains (xs ++ (mark ∷ ys)) c → ⊥
parts_lack xs ys mark c first second other is =
    ⊎_elim first (λ later. ⊎_elim other second (contains_cons mark c ys later)) (Contains-append_cases xs (mark ∷ ys) c is)

-- what is quoted has no quote
quoted_lacks : (bytes : List ℕ) → AllByRecursion IsQuotable bytes → Contains bytes 39 → ⊥
quoted_lacks [] all (k, below, is) = absurd (omega arith)
quoted_lacks (b ∷ bytes) all is = ⊎_elim (λ here. all.0.1 here) (quoted_lacks bytes all.1) (contains_cons b 39 bytes is)

-- the first items of equal lists, and the rest of them
pub heads : (x y : ℕ) (xs ys : List ℕ) → x ∷ xs ≡ y ∷ ys → (x ≡ y) × (xs ≡ ys)
heads x y xs ys e = (cc, cc)

-- two texts that begin with different characters differ
apart : {B : Type 0} (x y : ℕ) (xs ys front rest : List ℕ) → (x ≡ y → ⊥) → front ≡ y ∷ ys → x ∷ xs ≡ front ++ rest → B
apart x y xs ys front rest other is e = absurd (other (heads x y xs (ys ++ rest) (e ∙ ap (λ z. z ++ rest) is)).0)

-- a text that begins with an opening mark has the body and the closing mark behind it
after_open : (opening closing : ℕ) (after front body rest : List ℕ) → front ≡ opening ∷ (body ++ (closing ∷ [])) → opening ∷ after ≡ front ++ rest → after ≡ body ++ (closing ∷ rest)
after_open opening closing after front body rest is e =
    (heads opening opening after ((body ++ (closing ∷ [])) ++ rest) (e ∙ ap (λ z. z ++ rest) is)).1 ∙ append_assoc body (closing ∷ []) rest

-- no element begins with a character that is no mark, digit or question mark
no_element : (c : ℕ) → (c ≡ 42 → ⊥) → (c ≡ 123 → ⊥) → (c ≡ 91 → ⊥) → (c ≡ 40 → ⊥) → (c ≡ 63 → ⊥) → 16 ≤ digit_value c
    → (after : List ℕ) (e : Element) (front rest : List ℕ) → c ∷ after ≡ front ++ rest → SpellsElement front e → ⊥
no_element c a b d f g high [] e front rest there spelled = element.one_front c a b d f (c ∷ []) [] refl refl e front rest there spelled
no_element c a b d f g high (second ∷ after) e front rest there spelled =
    element.no_two_front c a b d f (c ∷ second ∷ after) (second ∷ after) after second refl refl none e front rest there spelled
  where
    none : (e : Element) → SpellsInPair c second e → ⊥
    none (Byte b) pair = absurd (let low = pair.0 in omega arith)
    none AnyByte marks = g marks.0
    none (Gap n m) h = h
    none (OpenGap n) h = h
    none (Range low high') h = h
    none (Except b) h = h
    none (Choice alternatives) h = h

-- what a text with this opening mark at its front begins with
abbrev pub Opens : ℕ → ℕ → (List ℕ → Atom → Type 0) → Type 0
Opens opening closing Inside = (after : List ℕ) (a : Atom) (front rest : List ℕ) → opening ∷ after ≡ front ++ rest → SpellsAtom front a
    → (body : List ℕ) × (after ≡ body ++ (closing ∷ rest)) × (Contains body closing → ⊥) × Inside body a

pub opens_braces : Opens 123 125 InBraces
opens_braces after (Plain e) front rest text spelled = element.opens_braces after e front rest text spelled.0
opens_braces after (Outside low high) front rest text (from, to, is, first', second', ordered', some') = apart 123 91 after (33 ∷ ((from ++ (58 ∷ to)) ++ (93 ∷ []))) front rest (λ h. absurd (omega arith)) is text
opens_braces after (Between low high) front rest text (from, to, is, first', second', bounds') = apart 123 91 after ((from ++ (58 ∷ to)) ++ (93 ∷ [])) front rest (λ h. absurd (omega arith)) is text
opens_braces after (Quoted bytes) front rest text (is, some, all) = apart 123 39 after (bytes ++ (39 ∷ [])) front rest (λ h. absurd (omega arith)) is text

pub opens_brackets : Opens 91 93 InBrackets
opens_brackets after (Plain e) front rest text spelled = element.opens_brackets after e front rest text spelled.0
opens_brackets after (Outside low high) front rest text (from, to, is, first, second, ordered, some) = (
  33 ∷ (from ++ (58 ∷ to)),
  after_open 91 93 after front (33 ∷ (from ++ (58 ∷ to))) rest is text,
  λ h. ⊎_elim (λ e. absurd (omega arith))
      (parts_lack from to 58 93 (bytes_lack from (low ∷ []) 93 first (omega arith)) (bytes_lack to (high ∷ []) 93 second (omega arith)) (λ e. absurd (omega arith)))
      (contains_cons 33 93 (from ++ (58 ∷ to)) h),
  (from, to, refl, first, second, ordered, some),
)
opens_brackets after (Between low high) front rest text (from, to, is, first, second, bounds) = (
  from ++ (58 ∷ to),
  after_open 91 93 after front (from ++ (58 ∷ to)) rest is text,
  parts_lack from to 58 93 (bytes_lack from low 93 first (omega arith)) (bytes_lack to high 93 second (omega arith)) (λ e. absurd (omega arith)),
  (from, to, refl, first, second, bounds),
)
opens_brackets after (Quoted bytes) front rest text (is, some, all) = apart 91 39 after (bytes ++ (39 ∷ [])) front rest (λ h. absurd (omega arith)) is text

pub opens_quotes : Opens 39 39 InQuotes
opens_quotes after (Plain e) front rest text spelled =
    absurd (no_element 39 (λ h. absurd (omega arith)) (λ h. absurd (omega arith)) (λ h. absurd (omega arith)) (λ h. absurd (omega arith)) (λ h. absurd (omega arith)) (omega arith) after e front rest text spelled.0)
opens_quotes after (Outside low high) front rest text (from, to, is, first', second', ordered', some') = apart 39 91 after (33 ∷ ((from ++ (58 ∷ to)) ++ (93 ∷ []))) front rest (λ h. absurd (omega arith)) is text
opens_quotes after (Between low high) front rest text (from, to, is, first', second', bounds') = apart 39 91 after ((from ++ (58 ∷ to)) ++ (93 ∷ [])) front rest (λ h. absurd (omega arith)) is text
opens_quotes after (Quoted bytes) front rest text (is, some, all) =
    (bytes, after_open 39 39 after front bytes rest is text, quoted_lacks bytes all, (refl, some, all))

-- what stands between the marks is the text of an item
spells_braces_plain : (body : List ℕ) (e : Element) → SpellsInBraces body e → IsPlain e
spells_braces_plain body (Gap n m) h = tt
spells_braces_plain body (OpenGap n) h = tt
spells_braces_plain body (Byte b) h = absurd h
spells_braces_plain body AnyByte h = absurd h
spells_braces_plain body (Range low high) h = absurd h
spells_braces_plain body (Except b) h = absurd h
spells_braces_plain body (Choice alternatives) h = absurd h

spells_brackets_plain : (body : List ℕ) (e : Element) → SpellsInBrackets body e → IsPlain e
spells_brackets_plain body (Range low high) h = tt
spells_brackets_plain body (Except b) h = tt
spells_brackets_plain body (Byte b) h = absurd h
spells_brackets_plain body AnyByte h = absurd h
spells_brackets_plain body (Gap n m) h = absurd h
spells_brackets_plain body (OpenGap n) h = absurd h
spells_brackets_plain body (Choice alternatives) h = absurd h

pub spells_braces : (body : List ℕ) (a : Atom) → InBraces body a → SpellsAtom (123 ∷ (body ++ (125 ∷ []))) a
spells_braces body (Plain e) h = (element.spells_braces body e h, spells_braces_plain body e h)
spells_braces body (Outside low high) h = absurd h
spells_braces body (Between low high) h = absurd h
spells_braces body (Quoted bytes) h = absurd h

pub spells_brackets : (body : List ℕ) (a : Atom) → InBrackets body a → SpellsAtom (91 ∷ (body ++ (93 ∷ []))) a
spells_brackets body (Plain e) h = (element.spells_brackets body e h, spells_brackets_plain body e h)
spells_brackets body (Outside low high) (from, to, is, first, second, ordered, some) = (from, to, ap (λ x. 91 ∷ (x ++ (93 ∷ []))) is, first, second, ordered, some)
spells_brackets body (Between low high) (from, to, is, first, second, bounds) = (from, to, ap (λ x. 91 ∷ (x ++ (93 ∷ []))) is, first, second, bounds)
spells_brackets body (Quoted bytes) h = absurd h

pub spells_quotes : (body : List ℕ) (a : Atom) → InQuotes body a → SpellsAtom (39 ∷ (body ++ (39 ∷ []))) a
spells_quotes body (Plain e) h = absurd h
spells_quotes body (Outside low high) h = absurd h
spells_quotes body (Between low high) h = absurd h
spells_quotes body (Quoted bytes) (is, some, all) = (ap (λ x. 39 ∷ (x ++ (39 ∷ []))) is, some, all)

-- and it stands for one item
pub same_braces : (body : List ℕ) (a a' : Atom) → InBraces body a → InBraces body a' → a' ≡ a
same_braces body (Plain e) (Plain e') h h' = ap Plain (element.same_braces body e e' h h')
same_braces body (Plain e) (Outside low high) h h' = absurd h'
same_braces body (Plain e) (Between low high) h h' = absurd h'
same_braces body (Plain e) (Quoted bytes) h h' = absurd h'
same_braces body (Outside low high) a' h h' = absurd h
same_braces body (Between low high) a' h h' = absurd h
same_braces body (Quoted bytes) a' h h' = absurd h

-- two digits for each byte
spelled_length : (bytes text : List ℕ) → SpellsBytes text bytes → length text ≡ 2 * length bytes
spelled_length [] text e = ap length e
spelled_length (b ∷ bytes) text (h, l, rest, e, pair, spelled) = let more = spelled_length bytes rest spelled in omega (arith, ap length e)

-- how long the text between brackets is, by its form
plain_length : (body : List ℕ) (e : Element) → SpellsInBrackets body e → length body < 6
plain_length body (Range low high) (from, to, is, first, second, ordered) =
    omega (arith, ap length is, length-append from (58 ∷ to), spelled_length (low ∷ []) from first, spelled_length (high ∷ []) to second)
plain_length body (Except b) (digits, is, spelled) = omega (arith, ap length is, spelled_length (b ∷ []) digits spelled)
plain_length body (Byte b) h = absurd h
plain_length body AnyByte h = absurd h
plain_length body (Gap n m) h = absurd h
plain_length body (OpenGap n) h = absurd h
plain_length body (Choice alternatives) h = absurd h

outside_length : (body : List ℕ) (low high : ℕ) → InBrackets body (Outside low high) → length body ≡ 6
outside_length body low high (from, to, is, first, second, ordered, some) =
    omega (arith, ap length is, length-append from (58 ∷ to), spelled_length (low ∷ []) from first, spelled_length (high ∷ []) to second)

several_length : (body low high : List ℕ) → InBrackets body (Between low high) → 8 < length body
several_length body low high (from, to, is, first, second, bounds) =
    omega (arith, ap length is, length-append from (58 ∷ to), spelled_length low from first, spelled_length high to second, bounds.several, bounds.same)

one_byte : (x y : ℕ) → x ∷ [] ≡ y ∷ [] → x ≡ y
one_byte x y e = cc

pub same_brackets : (body : List ℕ) (a a' : Atom) → InBrackets body a → InBrackets body a' → a' ≡ a
same_brackets body (Plain e) (Plain e') h h' = ap Plain (element.same_brackets body e e' h h')
same_brackets body (Plain e) (Outside low high) h h' = absurd (omega (arith, plain_length body e h, outside_length body low high h'))
same_brackets body (Plain e) (Between low high) h h' = absurd (omega (arith, plain_length body e h, several_length body low high h'))
same_brackets body (Outside low high) (Plain e) h h' = absurd (omega (arith, plain_length body e h', outside_length body low high h))
same_brackets body (Between low high) (Plain e) h h' = absurd (omega (arith, plain_length body e h', several_length body low high h))
same_brackets body (Outside l h) (Between low high) o b = absurd (omega (arith, outside_length body l h o, several_length body low high b))
same_brackets body (Between low high) (Outside l h) b o = absurd (omega (arith, outside_length body l h o, several_length body low high b))
same_brackets body (Outside low high) (Outside low' high') (from, to, is, first, second, ordered, some) (from', to', is', first', second', ordered', some') =
    let tail = (heads 33 33 (from' ++ (58 ∷ to')) (from ++ (58 ∷ to)) (sym is' ∙ is)).1 in
    let parts = first_mark 58 from' from to' to (bytes_lack from' (low' ∷ []) 58 first' (omega arith)) (bytes_lack from (low ∷ []) 58 first (omega arith)) tail in
    let bottom = one_byte low' low (same_bytes (low' ∷ []) (low ∷ []) from (rw parts.0 at first') first) in
    let top = one_byte high' high (same_bytes (high' ∷ []) (high ∷ []) to (rw parts.1 at second') second) in cc
same_brackets body (Between low high) (Between low' high') (from, to, is, first, second, bounds) (from', to', is', first', second', bounds') =
    let parts = first_mark 58 from' from to' to (bytes_lack from' low' 58 first' (omega arith)) (bytes_lack from low 58 first (omega arith)) (sym is' ∙ is) in
    let bottom : low' ≡ low = same_bytes low' low from (rw parts.0 at first') first in
    let top : high' ≡ high = same_bytes high' high to (rw parts.1 at second') second in cc
same_brackets body (Plain e) (Quoted bytes) h h' = absurd h'
same_brackets body (Outside low high) (Quoted bytes) h h' = absurd h'
same_brackets body (Between low high) (Quoted bytes) h h' = absurd h'
same_brackets body (Quoted bytes) a' h h' = absurd h

pub same_quotes : (body : List ℕ) (a a' : Atom) → InQuotes body a → InQuotes body a' → a' ≡ a
same_quotes body (Quoted bytes) (Quoted bytes') (is, some, all) (is', some', all') = ap Quoted (sym is' ∙ is)
same_quotes body (Quoted bytes) (Plain e) h h' = absurd h'
same_quotes body (Quoted bytes) (Outside low high) h h' = absurd h'
same_quotes body (Quoted bytes) (Between low high) h h' = absurd h'
same_quotes body (Plain e) a' h h' = absurd h
same_quotes body (Outside low high) a' h h' = absurd h
same_quotes body (Between low high) a' h h' = absurd h

-- The front of a text with an opening mark.
module _ (opening closing : ℕ) (Inside : List ℕ → Atom → Type 0) (opens : Opens opening closing Inside) where
  pub marked_front : ((body : List ℕ) (a : Atom) → Inside body a → SpellsAtom (opening ∷ (body ++ (closing ∷ []))) a)
      → ((body : List ℕ) (a a' : Atom) → Inside body a → Inside body a' → a' ≡ a)
      → (text after body rest : List ℕ) (a : Atom) → text ≡ opening ∷ after → after ≡ body ++ (closing ∷ rest) → (Contains body closing → ⊥) → Inside body a → IsOnlyFront SpellsAtom text a rest
  marked_front spells same text after body rest a is cut lacks inside = record {
    front = opening ∷ (body ++ (closing ∷ []));
    whole = is ∙ ap (λ x. opening ∷ x) (cut ∙ sym (append_assoc body (closing ∷ []) rest));
    spelled = spells body a inside;
    only = λ other start after' there spelled.
        let (body', cut', lacks', inside') = opens after other start after' (sym is ∙ there) spelled in
        let parts = first_mark closing body' body after' rest lacks' lacks (sym cut' ∙ cut) in
        (same body a other inside (rw parts.0 at inside'), parts.1);
  }

  -- no closing mark
  pub unmarked_front : (text after : List ℕ) → text ≡ opening ∷ after → (Contains after closing → ⊥) → HasNoFront SpellsAtom text
  unmarked_front text after is lacks a front rest there spelled =
      let (body, cut, lacks', inside) = opens after a front rest (sym is ∙ there) spelled in
      lacks (rw cut (mark_between closing body rest))

  -- nothing of the grammar between the marks
  pub bad_front : (text after body rest : List ℕ) → text ≡ opening ∷ after → after ≡ body ++ (closing ∷ rest) → (Contains body closing → ⊥) → ((a : Atom) → Inside body a → ⊥) → HasNoFront SpellsAtom text
  bad_front text after body rest is cut lacks none a front rest' there spelled =
      let (body', cut', lacks', inside) = opens after a front rest' (sym is ∙ there) spelled in
      let parts = first_mark closing body' body rest' rest lacks' lacks (sym cut' ∙ cut) in
      none a (rw parts.0 at inside)

-- The front of a text with a star.
pub star_front : (text after : List ℕ) → text ≡ 42 ∷ after → IsOnlyFront SpellsAtom text (Plain (OpenGap 0)) after
star_front text after is = record {
  front = 42 ∷ [];
  whole = is;
  spelled = (inl (refl, refl), tt);
  only = λ other start after' there spelled. go other start after' there spelled;
}
  where
    go : (other : Atom) (start after' : List ℕ) → text ≡ start ++ after' → SpellsAtom start other → (other ≡ Plain (OpenGap 0)) × (after' ≡ after)
    go (Plain e) start after' there spelled = let same = (element.star_front text after is).only e start after' there spelled.0 in (ap Plain same.0, same.1)
    go (Outside low high) start after' there (from, to, is', first', second', ordered', some') = apart 42 91 after (33 ∷ ((from ++ (58 ∷ to)) ++ (93 ∷ []))) start after' (λ h. absurd (omega arith)) is' (sym is ∙ there)
    go (Between low high) start after' there (from, to, is', first', second', bounds') = apart 42 91 after ((from ++ (58 ∷ to)) ++ (93 ∷ [])) start after' (λ h. absurd (omega arith)) is' (sym is ∙ there)
    go (Quoted bytes) start after' there (is', some, all) = apart 42 39 after (bytes ++ (39 ∷ [])) start after' (λ h. absurd (omega arith)) is' (sym is ∙ there)

spells_pair_plain : (first second : ℕ) (e : Element) → SpellsInPair first second e → IsPlain e
spells_pair_plain first second (Byte b) h = tt
spells_pair_plain first second AnyByte h = tt
spells_pair_plain first second (Gap n m) h = absurd h
spells_pair_plain first second (OpenGap n) h = absurd h
spells_pair_plain first second (Range low high) h = absurd h
spells_pair_plain first second (Except b) h = absurd h
spells_pair_plain first second (Choice alternatives) h = absurd h

-- The front of a text with no mark: two characters.
module _ (first : ℕ) (a : first ≡ 42 → ⊥) (b : first ≡ 123 → ⊥) (c : first ≡ 91 → ⊥) (d : first ≡ 40 → ⊥) (q : first ≡ 39 → ⊥) where
  pub two_front : (text after rest : List ℕ) (second : ℕ) (item : Atom) → text ≡ first ∷ after → after ≡ second ∷ rest → InPair first second item → IsOnlyFront SpellsAtom text item rest
  two_front text after rest second (Plain e) is cut pair =
      let whole = element.two_front first a b c d text after rest second e is cut pair in record {
        front = whole.front;
        whole = whole.whole;
        spelled = (whole.spelled, spells_pair_plain first second e pair);
        only = go;
      }
    where
      go : (other : Atom) (start after' : List ℕ) → text ≡ start ++ after' → SpellsAtom start other → (other ≡ Plain e) × (after' ≡ rest)
      go (Plain e') start after' there spelled = let same = (element.two_front first a b c d text after rest second e is cut pair).only e' start after' there spelled.0 in (ap Plain same.0, same.1)
      go (Outside low high) start after' there (from, to, is', first', second', ordered', some') = apart first 91 after (33 ∷ ((from ++ (58 ∷ to)) ++ (93 ∷ []))) start after' c is' (sym is ∙ there)
      go (Between low high) start after' there (from, to, is', first', second', bounds') = apart first 91 after ((from ++ (58 ∷ to)) ++ (93 ∷ [])) start after' c is' (sym is ∙ there)
      go (Quoted bytes) start after' there (is', some, all) = apart first 39 after (bytes ++ (39 ∷ [])) start after' q is' (sym is ∙ there)
  two_front text after rest second (Outside low high) is cut none = absurd none
  two_front text after rest second (Between low high) is cut none = absurd none
  two_front text after rest second (Quoted bytes) is cut none = absurd none

  pub no_item : (text after : List ℕ) → text ≡ first ∷ after → ((e : Element) (front rest : List ℕ) → text ≡ front ++ rest → SpellsElement front e → ⊥) → HasNoFront SpellsAtom text
  no_item text after is none (Plain e) front rest there spelled = none e front rest there spelled.0
  no_item text after is none (Outside low high) front rest there (from, to, is', first', second', ordered', some') = apart first 91 after (33 ∷ ((from ++ (58 ∷ to)) ++ (93 ∷ []))) front rest c is' (sym is ∙ there)
  no_item text after is none (Between low high) front rest there (from, to, is', first', second', bounds') = apart first 91 after ((from ++ (58 ∷ to)) ++ (93 ∷ [])) front rest c is' (sym is ∙ there)
  no_item text after is none (Quoted bytes) front rest there (is', some, all) = apart first 39 after (bytes ++ (39 ∷ [])) front rest q is' (sym is ∙ there)

  pub one_front : (text after : List ℕ) → text ≡ first ∷ after → after ≡ [] → HasNoFront SpellsAtom text
  one_front text after is none = no_item text after is (element.one_front first a b c d text after is none)

  pub no_two_front : (text after rest : List ℕ) (second : ℕ) → text ≡ first ∷ after → after ≡ second ∷ rest → ((e : Element) → SpellsInPair first second e → ⊥) → HasNoFront SpellsAtom text
  no_two_front text after rest second is cut none = no_item text after is (element.no_two_front first a b c d text after rest second is cut none)

-- no item begins with a parenthesis or a bar
pub not_parenthesis : (after : List ℕ) (a : Atom) (front rest : List ℕ) → 40 ∷ after ≡ front ++ rest → SpellsAtom front a → ⊥
not_parenthesis after (Plain e) front rest there spelled =
    let (body, cut, lacks, (alternatives, is, choice)) = element.opens_parentheses after e front rest there spelled.0 in
    let plain : IsPlain (Choice alternatives) = rw is at spelled.1 in plain
not_parenthesis after (Outside low high) front rest there (from, to, is, first', second', ordered', some') = apart 40 91 after (33 ∷ ((from ++ (58 ∷ to)) ++ (93 ∷ []))) front rest (λ h. absurd (omega arith)) is there
not_parenthesis after (Between low high) front rest there (from, to, is, first', second', bounds') = apart 40 91 after ((from ++ (58 ∷ to)) ++ (93 ∷ [])) front rest (λ h. absurd (omega arith)) is there
not_parenthesis after (Quoted bytes) front rest there (is, some, all) = apart 40 39 after (bytes ++ (39 ∷ [])) front rest (λ h. absurd (omega arith)) is there

not_stop : (c : ℕ) → (c ≡ 42 → ⊥) → (c ≡ 123 → ⊥) → (c ≡ 91 → ⊥) → (c ≡ 40 → ⊥) → (c ≡ 63 → ⊥) → (c ≡ 39 → ⊥) → 16 ≤ digit_value c
    → (after : List ℕ) (a : Atom) (front rest : List ℕ) → c ∷ after ≡ front ++ rest → SpellsAtom front a → ⊥
not_stop c a b d f g q high after (Plain e) front rest there spelled = no_element c a b d f g high after e front rest there spelled.0
not_stop c a b d f g q high after (Outside low high') front rest there (from, to, is, first', second', ordered', some') = apart c 91 after (33 ∷ ((from ++ (58 ∷ to)) ++ (93 ∷ []))) front rest d is there
not_stop c a b d f g q high after (Between low high') front rest there (from, to, is, first', second', bounds') = apart c 91 after ((from ++ (58 ∷ to)) ++ (93 ∷ [])) front rest d is there
not_stop c a b d f g q high after (Quoted bytes) front rest there (is, some, all) = apart c 39 after (bytes ++ (39 ∷ [])) front rest q is there

pub not_bar : (after : List ℕ) (a : Atom) (front rest : List ℕ) → 124 ∷ after ≡ front ++ rest → SpellsAtom front a → ⊥
not_bar = not_stop 124 (λ h. absurd (omega arith)) (λ h. absurd (omega arith)) (λ h. absurd (omega arith)) (λ h. absurd (omega arith)) (λ h. absurd (omega arith)) (λ h. absurd (omega arith)) (omega arith)

pub not_closing : (after : List ℕ) (a : Atom) (front rest : List ℕ) → 41 ∷ after ≡ front ++ rest → SpellsAtom front a → ⊥
not_closing = not_stop 41 (λ h. absurd (omega arith)) (λ h. absurd (omega arith)) (λ h. absurd (omega arith)) (λ h. absurd (omega arith)) (λ h. absurd (omega arith)) (λ h. absurd (omega arith)) (omega arith)

-- no item is written by nothing
pub some_item : (a : Atom) (front : List ℕ) → SpellsAtom front a → 0 < length front
some_item (Plain e) front spelled = element.some_text e front spelled.0
some_item (Outside low high) front (from, to, is, first', second', ordered', some') = omega (arith, ap length is)
some_item (Between low high) front (from, to, is, first', second', bounds') = omega (arith, ap length is)
some_item (Quoted bytes) front (is, some, all) = omega (arith, ap length is)

-- in braces stand elements alone
pub only_plain_braces : (body : List ℕ) → ((e : Element) → SpellsInBraces body e → ⊥) → (a : Atom) → InBraces body a → ⊥
only_plain_braces body none (Plain e) h = none e h
only_plain_braces body none (Outside low high) h = h
only_plain_braces body none (Between low high) h = h
only_plain_braces body none (Quoted bytes) h = h

-- in brackets stands one of four forms
pub no_brackets : (body : List ℕ) → ((b : ℕ) → SpellsInBrackets body (Except b) → ⊥) → ((low high : ℕ) → SpellsInBrackets body (Range low high) → ⊥)
    → ((low high : ℕ) → InBrackets body (Outside low high) → ⊥) → ((low high : List ℕ) → InBrackets body (Between low high) → ⊥) → (a : Atom) → InBrackets body a → ⊥
no_brackets body except range outside several (Plain (Except b)) h = except b h
no_brackets body except range outside several (Plain (Range low high)) h = range low high h
no_brackets body except range outside several (Plain (Byte b)) h = h
no_brackets body except range outside several (Plain AnyByte) h = h
no_brackets body except range outside several (Plain (Gap n m)) h = h
no_brackets body except range outside several (Plain (OpenGap n)) h = h
no_brackets body except range outside several (Plain (Choice alternatives)) h = h
no_brackets body except range outside several (Outside low high) h = outside low high h
no_brackets body except range outside several (Between low high) h = several low high h
no_brackets body except range outside several (Quoted bytes) h = h

-- two characters of which the first is a parenthesis are no item
no_open_pair : (second : ℕ) (a : Atom) → InPair 40 second a → ⊥
no_open_pair second (Plain (Byte b)) pair = absurd (let low = pair.0 in omega arith)
no_open_pair second (Plain AnyByte) marks = absurd (let is = marks.0 in omega arith)
no_open_pair second (Plain (Gap n m)) h = h
no_open_pair second (Plain (OpenGap n)) h = h
no_open_pair second (Plain (Range low high)) h = h
no_open_pair second (Plain (Except b)) h = h
no_open_pair second (Plain (Choice alternatives)) h = h
no_open_pair second (Outside low high) h = h
no_open_pair second (Between low high) h = h
no_open_pair second (Quoted bytes) h = h

-- The front of a text that begins with no mark but perhaps a parenthesis: two characters.
module _ (first : ℕ) (a : first ≡ 42 → ⊥) (b : first ≡ 123 → ⊥) (c : first ≡ 91 → ⊥) (q : first ≡ 39 → ⊥) where
  pub pair_front : (text after rest : List ℕ) (second : ℕ) (item : Atom) → text ≡ first ∷ after → after ≡ second ∷ rest → InPair first second item → IsOnlyFront SpellsAtom text item rest
  pair_front text after rest second item is cut pair =
      two_front first a b c (λ (open_one : first ≡ 40). no_open_pair second item (subst (λ (x : ℕ). InPair x second item) open_one pair)) q text after rest second item is cut pair

  pub no_pair_front : (text after rest : List ℕ) (second : ℕ) → text ≡ first ∷ after → after ≡ second ∷ rest → ((e : Element) → SpellsInPair first second e → ⊥) → HasNoFront SpellsAtom text
  no_pair_front text after rest second is cut none =
      ⊎_elim
      (λ e item front behind there spelled. not_parenthesis after item front behind (ap (λ (x : ℕ). x ∷ after) (sym e) ∙ sym is ∙ there) spelled)
      (λ other. no_two_front first a b c other q text after rest second is cut none)
      (cases_eq first 40)
