-- The bounds of ranges, and quoted text.
use Rattle.std.proofs.Common.{◌≡◌, ◌⊎◌, ℕ, zero, suc, ◌+◌, ◌*◌, ◌<◌, ◌≤◌, Bool, true, false, List, [], ◌∷◌, ◌++◌, length, take, get_or, Contains, inl, inr, ⊎_elim, refl, sym, ap, ◌∙◌, arith}
use Rattle.std.specs.Prelude.{nat_le, nat_lt, MatchBool}
use Rattle.std.specs.List.{AllByRecursion, list_all}
use Rattle.std.specs.Char.{digit_value}
use Rattle.std.proofs.lemmas.Bool.{cases_order, lt-ltb, le-ltb, le-leb, lt-leb, leb-true, leb-false, ltb-true, and_parts, and_from, false≢true}
use Rattle.droid_pattern.specs.Patterns.{Element, Range, Except}
use Rattle.droid_pattern.specs.PatternText.{IsPair, SpellsBytes, SpellsAlternative}
use Rattle.droid_pattern.specs.Fronts.{SpellsInBrackets}
use Rattle.droid_pattern.proofs.TextLemmas.{first_mark, mark_between, bytes_have}
use Rattle.droid_pattern.proofs.FrontLemmas as element
use Rattle.droid_signature_file.specs.Terms.{Atom, Plain, Outside, Between, Quoted, AreBytes, number_after}
use Rattle.droid_signature_file.specs.TermText.{AreBounds, IsQuotable}
use Rattle.droid_signature_file.proofs.BigEndian.{less_after}
use Rattle.droid_signature_pattern.specs.TextFronts.{InBrackets, InQuotes}
use Rattle.droid_signature_pattern.proofs.ItemFronts.{heads}

pub each_byte : (xs : List ℕ) → ((k : ℕ) → get_or xs k 0 < 256) → AreBytes xs
each_byte [] h = tt
each_byte (x ∷ xs) h = (h 0, each_byte xs (λ k. h (suc k)))

-- the first bytes that differ decide
decided : (low high : List ℕ) (i n : ℕ) → AreBytes low → AreBytes high → length low ≡ length high → i < length low → take i low ≡ take i high
    → get_or low i 0 < get_or high i 0 → number_after n low < number_after n high
decided [] high i n ls hs same below fronts less = absurd (omega arith)
decided (x ∷ low) [] i n ls hs same below fronts less = absurd (omega arith)
decided (x ∷ low) (y ∷ high) zero n ls hs same below fronts less = less_after low high (256 * n + x) (256 * n + y) (omega arith) ls.1 (omega arith)
decided (x ∷ low) (y ∷ high) (suc i) n ls hs same below fronts less =
    let parts = heads x y (take i low) (take i high) fronts in
    let more = decided low high i (256 * n + x) ls.1 hs.1 (omega arith) (omega arith) parts.1 less in
    rw (sym parts.0) more

pub compared : (low high : List ℕ) (i : ℕ) → AreBytes low → AreBytes high → length low ≡ length high → i < length low → take i low ≡ take i high
    → (get_or low i 0 ≡ get_or high i 0 → ⊥) → nat_lt (get_or low i 0) (get_or high i 0) ≡ nat_le (number_after 0 low) (number_after 0 high)
compared low high i ls hs same below fronts differ =
    ⊎_elim (λ e. absurd (differ e))
    (λ w. ⊎_elim
    (λ less. let whole = decided low high i 0 ls hs same below fronts less in
    lt-ltb (get_or low i 0) (get_or high i 0) less ∙ sym (le-leb (number_after 0 low) (number_after 0 high) (omega arith)))
    (λ more. let whole = decided high low i 0 hs ls (sym same) (omega arith) (sym fronts) more in
    le-ltb (get_or low i 0) (get_or high i 0) (omega arith) ∙ sym (lt-leb (number_after 0 low) (number_after 0 high) whole)) w)
    (cases_order (get_or low i 0) (get_or high i 0))

-- one more byte that is the same
pub same_more : (low high : List ℕ) (i : ℕ) → length low ≡ length high → i < length low → take i low ≡ take i high → get_or low i 0 ≡ get_or high i 0 → take (suc i) low ≡ take (suc i) high
same_more [] high i same below fronts here = absurd (omega arith)
same_more (x ∷ low) [] i same below fronts here = absurd (omega arith)
same_more (x ∷ low) (y ∷ high) zero same below fronts here = ap (λ z. z ∷ []) here
same_more (x ∷ low) (y ∷ high) (suc i) same below fronts here =
    let parts = heads x y (take i low) (take i high) fronts in
    ap (λ z. z ∷ take (suc i) low) parts.0 ∙ ap (λ zs. y ∷ zs) (same_more low high i (omega arith) (omega arith) parts.1 here)

all_same : (low high : List ℕ) → length low ≡ length high → take (length low) low ≡ take (length low) high → low ≡ high
all_same [] [] same fronts = refl
all_same [] (y ∷ high) same fronts = absurd (omega arith)
all_same (x ∷ low) [] same fronts = absurd (omega arith)
all_same (x ∷ low) (y ∷ high) same fronts =
    let parts = heads x y (take (length low) low) (take (length low) high) fronts in
    ap (λ z. z ∷ low) parts.0 ∙ ap (λ zs. y ∷ zs) (all_same low high (omega arith) parts.1)

pub compared_all : (low high : List ℕ) → length low ≡ length high → take (length low) low ≡ take (length low) high → true ≡ nat_le (number_after 0 low) (number_after 0 high)
compared_all low high same fronts = sym (le-leb (number_after 0 low) (number_after 0 high) (let e = ap (number_after 0) (all_same low high same fronts) in omega arith))

pub bounds_by_test : (r : Bool) (low high : List ℕ) → 1 < length low → length low ≡ length high → r ≡ nat_le (number_after 0 low) (number_after 0 high) → MatchBool r (AreBounds low high) (AreBounds low high → ⊥)
bounds_by_test true low high several same is = record { several = several; same = same; ordered = leb-true (number_after 0 low) (number_after 0 high) (sym is) }
bounds_by_test false low high several same is = λ (b : AreBounds low high). absurd (let more = leb-false (number_after 0 low) (number_after 0 high) (sym is) in let less = b.ordered in omega arith)

-- a byte outside a range: an exclamation mark and the range
pub outside_front : (body after : List ℕ) (first : ℕ) → body ≡ first ∷ after → (low high : ℕ) → InBrackets body (Outside low high)
    → (first ≡ 33) × SpellsInBrackets after (Range low high) × (high < low + 255)
outside_front body after first is low high (from, to, whole, bottom, top, ordered, some) =
    let parts = heads first 33 after (from ++ (58 ∷ to)) (sym is ∙ whole) in
    (parts.0, (from, to, parts.1, bottom, top, ordered), some)

pub outside_whole : (body after : List ℕ) (first low high : ℕ) → body ≡ first ∷ after → first ≡ 33 → SpellsInBrackets after (Range low high) → high < low + 255 → InBrackets body (Outside low high)
outside_whole body after first low high is mark (from, to, cut, bottom, top, ordered) some =
    (from, to, is ∙ ap (λ z. z ∷ after) mark ∙ ap (λ zs. 33 ∷ zs) cut, bottom, top, ordered, some)

range_parts : (low high low' high' : ℕ) → Range low high ≡ Range low' high' → (low ≡ low') × (high ≡ high')
range_parts low high low' high' e = (cc, cc)

pub all_outside : (body after : List ℕ) (first low high : ℕ) → body ≡ first ∷ after → SpellsInBrackets after (Range low high) → low + 255 ≤ high
    → (l h : ℕ) → InBrackets body (Outside l h) → ⊥
all_outside body after first low high is found wide l h outside =
    let (mark, range, some) = outside_front body after first is l h outside in
    let same = range_parts l h low high (element.same_brackets after (Range low high) (Range l h) found range) in
    let bottom = same.0 in let top = same.1 in absurd (omega arith)

pub no_outside : (body : List ℕ) → body ≡ [] → (low high : ℕ) → InBrackets body (Outside low high) → ⊥
no_outside body none low high (from, to, whole, first, second, ordered, some) = let bad : [] ≡ 33 ∷ (from ++ (58 ∷ to)) = sym none ∙ whole in cc

-- a range of several bytes: the bounds round a colon
pub several_parts : (body from to : List ℕ) → body ≡ from ++ (58 ∷ to) → (Contains from 58 → ⊥) → (low high : List ℕ) → InBrackets body (Between low high)
    → SpellsAlternative from low × SpellsAlternative to high × AreBounds low high
several_parts body from to is lacks low high (from', to', whole, bottom, top, bounds) =
    let bare : Contains from' 58 → ⊥ = λ h. let low_digit = bytes_have low from' 58 bottom h in absurd (omega arith) in
    let parts = first_mark 58 from' from to' to bare lacks (sym whole ∙ is) in
    let long = bounds.several in
    let same = bounds.same in
    ((rw parts.0 at bottom, omega arith), (rw parts.1 at top, omega arith), bounds)

pub no_colon : (body : List ℕ) → (Contains body 58 → ⊥) → (low high : List ℕ) → InBrackets body (Between low high) → ⊥
no_colon body lacks low high (from, to, whole, first, second, bounds) = lacks (rw whole (mark_between 58 from to))

-- quoted text
pub quotable : (xs : List ℕ) → true ≡ list_all (λ c. nat_lt c 128) xs → (Contains xs 39 → ⊥) → AllByRecursion IsQuotable xs
quotable [] test lacks = tt
quotable (x ∷ xs) test lacks =
    let parts = and_parts (nat_lt x 128) (list_all (λ c. nat_lt c 128) xs) (sym test) in
    ((ltb-true x 128 parts.0, λ e. lacks (0, omega arith, e)), quotable xs (sym parts.1) (λ (k, below, is). lacks (suc k, omega arith, is)))

quotable_test : (xs : List ℕ) → AllByRecursion IsQuotable xs → list_all (λ c. nat_lt c 128) xs ≡ true
quotable_test [] all = refl
quotable_test (x ∷ xs) all = and_from (nat_lt x 128) (list_all (λ c. nat_lt c 128) xs) (lt-ltb x 128 all.0.0) (quotable_test xs all.1)

pub not_quoted : (body : List ℕ) → false ≡ list_all (λ c. nat_lt c 128) body → (a : Atom) → InQuotes body a → ⊥
not_quoted body test (Quoted bytes) (is, some, all) = false≢true (test ∙ ap (list_all (λ c. nat_lt c 128)) is ∙ quotable_test bytes all)
not_quoted body test (Plain e) h = h
not_quoted body test (Outside low high) h = h
not_quoted body test (Between low high) h = h

pub nothing_quoted : (body : List ℕ) → body ≡ [] → (a : Atom) → InQuotes body a → ⊥
nothing_quoted body none (Quoted bytes) (is, some, all) = absurd (omega (arith, ap length (sym none ∙ is)))
nothing_quoted body none (Plain e) h = h
nothing_quoted body none (Outside low high) h = h
nothing_quoted body none (Between low high) h = h

pub some_length : (xs : List ℕ) → (xs ≡ [] → ⊥) → 0 < length xs
some_length [] some = absurd (some refl)
some_length (x ∷ xs) some = omega arith

pub no_length : (xs : List ℕ) → length xs ≡ 0 → xs ≡ []
no_length [] none = refl
no_length (x ∷ xs) none = absurd (omega (arith, none))
