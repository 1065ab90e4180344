-- A text that is cut at the first byte that passes a test.
use Rattle.std.proofs.Common.{◌≡◌, ◌∙◌, ◌<◌, ℕ, suc, ◌+◌, Bool, true, false, not, List, [], ◌∷◌, ◌++◌, length, take, drop, get_or, Option, Some, None, unwrap_or, cond, refl, sym, ap, arith}
use Rattle.std.specs.Prelude.{nat_lt}
use Rattle.std.specs.List.{list_all, position, position_or_len}
use Rattle.std.proofs.lemmas.Bool.{and_from, and_parts, lt-ltb, ltb-true, not-true}
use Rattle.std.proofs.lemmas.List.{drop_at, drop_more, length-append, take-append-drop, take_at}
use Rattle.std.proofs.lemmas.List.Sums.{passes_at_first}
use Rattle.droid_fixity.specs.Lines.{cut}

-- bytes of which none passes
abbrev pub none_pass : (ℕ → Bool) → List ℕ → Bool
none_pass test text = list_all (λ b. not (test b)) text

-- ---- where it is cut

place_is : (test : ℕ → Bool) (front rest : List ℕ) (first : ℕ) → none_pass test front ≡ true → test first ≡ true → position_or_len test (front ++ first ∷ rest) ≡ length front
place_is test [] rest first none passes = rw passes refl
place_is test (b ∷ front) rest first none passes =
    let both = and_parts (not (test b)) (none_pass test front) none in
    let behind = place_is test front rest first both.1 passes in
    rw (not-true (test b) both.0) (omega (arith, behind))

found : (test : ℕ → Bool) (front rest : List ℕ) (first : ℕ) → none_pass test front ≡ true → test first ≡ true → position test (front ++ first ∷ rest) ≡ Some (length front)
found test front rest first none passes =
    let len = length-append front (first ∷ rest) in
    let below : length front < length (front ++ first ∷ rest) = omega (arith, len) in
    rw (place_is test front rest first none passes) (rw (lt-ltb (length front) (length (front ++ first ∷ rest)) below) refl)

pub cut_found : (test : ℕ → Bool) (front rest : List ℕ) (first : ℕ) → none_pass test front ≡ true → test first ≡ true
    → cut (front ++ first ∷ rest) (position test (front ++ first ∷ rest)) ≡ Some (front, first ∷ rest)
cut_found test front rest first none passes =
    ap (cut (front ++ first ∷ rest)) (found test front rest first none passes)
    ∙ (ap (λ (one : List ℕ). Some (one, drop (length front) (front ++ first ∷ rest))) (take_at front (first ∷ rest) (length front) refl)
    ∙ ap (λ (other : List ℕ). Some (front, other)) (drop_at front (first ∷ rest) (length front) refl))

-- ---- what a cut says

pub record IsCut (test : ℕ → Bool) (text front rest : List ℕ) : Type 0 where
  pub whole : text ≡ front ++ rest
  pub first : ℕ
  pub more : List ℕ
  pub starts : rest ≡ first ∷ more
  pub passes : test first ≡ true
  pub none : none_pass test front ≡ true

none_by : (passes : Bool) (test : ℕ → Bool) (b : ℕ) (text : List ℕ) → test b ≡ passes → none_pass test (take (position_or_len test text) text) ≡ true
    → none_pass test (take (cond (not passes) (1 + position_or_len test text) 0) (b ∷ text)) ≡ true
none_by true test b text is none = refl
none_by false test b text is none =
    let same : 1 + position_or_len test text ≡ suc (position_or_len test text) = omega arith in
    ap (λ (n : ℕ). none_pass test (take n (b ∷ text))) same ∙ and_from (not (test b)) (none_pass test (take (position_or_len test text) text)) (ap not is) none

none_before : (test : ℕ → Bool) (text : List ℕ) → none_pass test (take (position_or_len test text) text) ≡ true
none_before test [] = refl
none_before test (b ∷ text) = none_by (test b) test b text refl (none_before test text)

-- the cut at a place
parts_at : (test : ℕ → Bool) (text : List ℕ) → position_or_len test text < length text
    → IsCut test text (take (position_or_len test text) text) (drop (position_or_len test text) text)
parts_at test text below = record {
  whole = sym (take-append-drop (position_or_len test text) text);
  first = get_or text (position_or_len test text) 0;
  more = drop (position_or_len test text + 1) text;
  starts = drop_more text (position_or_len test text) 0 below;
  passes = passes_at_first test text 0 below;
  none = none_before test text;
}

parts_by : (is_below : Bool) (test : ℕ → Bool) (text front rest : List ℕ) → nat_lt (position_or_len test text) (length text) ≡ is_below
    → cut text (cond is_below (Some (position_or_len test text)) None) ≡ Some (front, rest) → IsCut test text front rest
parts_by true test text front rest below is =
    let one : take (position_or_len test text) text ≡ front = ap (λ (o : Option (List ℕ × List ℕ)). (unwrap_or o ([], [])).0) is in
    let other : drop (position_or_len test text) text ≡ rest = ap (λ (o : Option (List ℕ × List ℕ)). (unwrap_or o ([], [])).1) is in
    rw (← one, ← other) (parts_at test text (ltb-true (position_or_len test text) (length text) below))
parts_by false test text front rest below is = absurd cc

pub cut_parts : (test : ℕ → Bool) (text front rest : List ℕ) → cut text (position test text) ≡ Some (front, rest) → IsCut test text front rest
cut_parts test text front rest is = parts_by (nat_lt (position_or_len test text) (length text)) test text front rest refl is
