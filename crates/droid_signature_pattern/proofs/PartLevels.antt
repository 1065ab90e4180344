-- The levels of subsequences, one after the other.
use Rattle.std.proofs.Common.{◌≡◌, ℕ, suc, ◌+◌, ◌<◌, List, [], ◌∷◌, ◌++◌, length, map, take, drop, get_or, refl, sym, ap, subst, ◌∙◌, arith, append_assoc}
use Rattle.std.specs.Prelude.{◌==◌, if◌then◌else◌}
use Rattle.std.proofs.lemmas.List.{append-nil, map-append, take-append-drop, take_more}
use Rattle.std.proofs.Math.Seq.{take-append_seam}
use Rattle.std.proofs.lemmas.Bool.{eq-eqb, ne_eqb}
use Rattle.droid_signature_file.specs.Pieces.{gap_patterns}
use Rattle.droid_pattern.specs.Patterns.{Element, Gap, OpenGap}
use Rattle.droid_signature_file.specs.Expansions as spec
use Rattle.droid_signature_pattern.specs.Texts as texts
use Rattle.droid_signature_pattern.specs.Written.{written, written_all, written_each}
use Rattle.droid_signature_pattern.specs.Outcomes.{AreTooMuch, IsTooMuch}
use Rattle.droid_signature_pattern.specs.declared.reason.Reason.{Reason}
use Rattle.droid_signature_pattern.proofs.Joined.{joined_all_append, written_joined}
use Rattle.droid_signature_pattern.specs.Parts.{ReadFragment, ReadPart, further_levels, in_order, joined_all, left_levels, level, next_levels, outermost_of, part_levels, right_levels, row_levels, side_patterns}
use Rattle.droid_signature_pattern.specs.declared.part_texts.Way.{Way}
use Rattle.droid_signature_pattern.specs.declared.part_texts.Way.TheVariants as way

-- levels as texts
pub levels_written : (levels : List (List (List Element))) → texts.joined_all (map written_each levels) ≡ written_each (joined_all levels)
levels_written [] = refl
levels_written (l ∷ levels) = ap (texts.joined (written_each l)) (levels_written levels) ∙ sym (written_joined l (joined_all levels))

pub in_order_map : (from : Way) (outer inner : List (List Element)) → in_order from (written_each outer) (written_each inner) ≡ map written_each (in_order from outer inner)
in_order_map way.Left outer inner = refl
in_order_map way.Right outer inner = refl

-- one more fragment of a position
level_push : (from : Way) (position : ℕ) (its : List ReadFragment) (it : ReadFragment)
    → level from position (its ++ it ∷ []) ≡ level from position its ++ (if it.position == position then side_patterns from it else [])
level_push from position [] it = append-nil (if it.position == position then side_patterns from it else [])
level_push from position (x ∷ its) it =
    ap (λ l. (if x.position == position then side_patterns from x else []) ++ l) (level_push from position its it)
    ∙ sym (append_assoc (if x.position == position then side_patterns from x else []) (level from position its) (if it.position == position then side_patterns from it else []))

pub level_more : (from : Way) (position : ℕ) (its : List ReadFragment) (i : ℕ) (it : ReadFragment) (done more : List (List ℕ)) → i < length its → it ≡ get_or its i it
    → done ≡ written_each (level from position (take i its)) → more ≡ written_each (if it.position == position then side_patterns from it else [])
    → done ++ more ≡ written_each (level from position (take (i + 1) its))
level_more from position its i it done more below is so_far made =
    ap (λ l. l ++ more) so_far
    ∙ ap (λ l. written_each (level from position (take i its)) ++ l) made
    ∙ sym (map-append written_all (level from position (take i its)) (if it.position == position then side_patterns from it else []))
    ∙ ap written_each (sym (level_push from position (take i its) it))
    ∙ ap (λ l. written_each (level from position l)) (ap (λ y. take i its ++ y ∷ []) is ∙ sym (take_more its i it below))

-- left fragments, from the outermost in
pub left_more : (its : List ReadFragment) (k j : ℕ) (before after whole : List (List (List ℕ))) (own : List (List ℕ)) → k ≡ suc j → own ≡ written_each (level way.Left k its) → after ≡ before ++ own ∷ []
    → before ++ map written_each (left_levels its k) ≡ whole → after ++ map written_each (left_levels its j) ≡ whole
left_more its k j before after whole own e made grown is =
    ap (λ l. l ++ map written_each (left_levels its j)) grown
    ∙ append_assoc before (own ∷ []) (map written_each (left_levels its j))
    ∙ ap (λ l. before ++ (l ∷ map written_each (left_levels its j))) (made ∙ ap (λ n. written_each (level way.Left n its)) e)
    ∙ ap (λ n. before ++ map written_each (left_levels its n)) (sym e)
    ∙ is

pub left_end : (its : List ReadFragment) (k : ℕ) (all whole : List (List (List ℕ))) → k ≡ 0 → all ++ map written_each (left_levels its k) ≡ whole → all ≡ whole
left_end its k all whole e is = sym (append-nil all) ∙ ap (λ n. all ++ map written_each (left_levels its n)) (sym e) ∙ is

-- right fragments, from the innermost out
pub right_more : (its : List ReadFragment) (p : ℕ) (old before after : List (List (List ℕ))) (own : List (List ℕ)) → own ≡ written_each (level way.Right (p + 1) its) → after ≡ before ++ own ∷ []
    → before ≡ old ++ map written_each (right_levels its p) → after ≡ old ++ map written_each (right_levels its (p + 1))
right_more its p old before after own made grown is =
    let e : p + 1 ≡ suc p = omega arith in
    grown
    ∙ ap (λ l. l ++ own ∷ []) is
    ∙ append_assoc old (map written_each (right_levels its p)) (own ∷ [])
    ∙ ap (λ l. old ++ (map written_each (right_levels its p) ++ l ∷ [])) (made ∙ ap (λ n. written_each (level way.Right n its)) e)
    ∙ ap (λ l. old ++ l) (sym (map-append written_each (right_levels its p) (level way.Right (suc p) its ∷ [])))
    ∙ ap (λ n. old ++ map written_each (right_levels its n)) (sym e)

-- one subsequence, in three steps
pub part_steps : (part : ReadPart) (old first second all : List (List (List ℕ))) (own : List (List ℕ)) → first ≡ old ++ map written_each (left_levels part.left (outermost_of part.left))
    → own ≡ written_each (spec.patterns_of part.terms) → second ≡ first ++ own ∷ [] → all ≡ second ++ map written_each (right_levels part.right (outermost_of part.right))
    → all ≡ old ++ map written_each (part_levels part)
part_steps part old first second all own one made two three =
    let left = left_levels part.left (outermost_of part.left) in
    let right = right_levels part.right (outermost_of part.right) in
    three
    ∙ ap (λ l. l ++ map written_each right) (two ∙ ap (λ l. l ++ own ∷ []) one ∙ ap (λ o. (old ++ map written_each left) ++ o ∷ []) made)
    ∙ append_assoc (old ++ map written_each left) (written_each (spec.patterns_of part.terms) ∷ []) (map written_each right)
    ∙ append_assoc old (map written_each left) (written_each (spec.patterns_of part.terms) ∷ map written_each right)
    ∙ ap (λ l. old ++ l) (sym (map-append written_each left (spec.patterns_of part.terms ∷ right)))

-- one more subsequence behind the first
further_push : (parts : List ReadPart) (part : ReadPart) → further_levels (parts ++ part ∷ []) ≡ further_levels parts ++ (((OpenGap part.least ∷ []) ∷ []) ∷ part_levels part)
further_push [] part = ap (λ l. ((OpenGap part.least ∷ []) ∷ []) ∷ l) (append-nil (part_levels part))
further_push (x ∷ parts) part =
    ap (λ l. ((OpenGap x.least ∷ []) ∷ []) ∷ (part_levels x ++ l)) (further_push parts part)
    ∙ ap (λ l. ((OpenGap x.least ∷ []) ∷ []) ∷ l) (sym (append_assoc (part_levels x) (further_levels parts) (((OpenGap part.least ∷ []) ∷ []) ∷ part_levels part)))

further_append : (xs ys : List ReadPart) → further_levels (xs ++ ys) ≡ further_levels xs ++ further_levels ys
further_append [] ys = refl
further_append (x ∷ xs) ys =
    ap (λ l. ((OpenGap x.least ∷ []) ∷ []) ∷ (part_levels x ++ l)) (further_append xs ys)
    ∙ ap (λ l. ((OpenGap x.least ∷ []) ∷ []) ∷ l) (sym (append_assoc (part_levels x) (further_levels xs) (further_levels ys)))

-- the first subsequence alone
pub row_first : (first : ReadPart) → texts.joined_all (map written_each (part_levels first)) ≡ texts.joined_all (map written_each (row_levels first []))
row_first first = ap (λ l. texts.joined_all (map written_each l)) (sym (append-nil (part_levels first)))

-- one more subsequence behind the first ones
pub row_more : (first : ReadPart) (parts : List ReadPart) (i : ℕ) (part : ReadPart) (before level after : List (List ℕ)) → i < length parts → part ≡ get_or parts i part
    → before ≡ texts.joined_all (map written_each (row_levels first (take i parts))) → level ≡ texts.joined_all (map written_each (next_levels part)) → after ≡ texts.joined before level
    → after ≡ texts.joined_all (map written_each (row_levels first (take (i + 1) parts)))
row_more first parts i part before level after below is so_far made grown =
    let done = row_levels first (take i parts) in
    grown
    ∙ ap (λ l. texts.joined l level) so_far
    ∙ ap (texts.joined (texts.joined_all (map written_each done))) made
    ∙ sym (joined_all_append (map written_each done) (map written_each (next_levels part)))
    ∙ ap texts.joined_all (sym (map-append written_each done (next_levels part)))
    ∙ ap (λ l. texts.joined_all (map written_each l)) (append_assoc (part_levels first) (further_levels (take i parts)) (next_levels part))
    ∙ ap (λ l. texts.joined_all (map written_each (part_levels first ++ l))) (sym (further_push (take i parts) part))
    ∙ ap (λ l. texts.joined_all (map written_each (row_levels first l))) (ap (λ y. take i parts ++ y ∷ []) is ∙ sym (take_more parts i part below))

-- what the first subsequences give is what the first of all levels give
pub row_exceeds : (first : ReadPart) (parts : List ReadPart) (i : ℕ) (done : List (List ℕ)) (reason : Reason) → done ≡ texts.joined_all (map written_each (row_levels first (take i parts)))
    → IsTooMuch done reason → AreTooMuch (map written_each (row_levels first parts)) reason
row_exceeds first parts i done reason is h =
    let front = row_levels first (take i parts) in
    let back = further_levels (drop i parts) in
    let whole : row_levels first parts ≡ front ++ back =
    ap (row_levels first) (sym (take-append-drop i parts)) ∙ ap (λ l. part_levels first ++ l) (further_append (take i parts) (drop i parts)) ∙ sym (append_assoc (part_levels first) (further_levels (take i parts)) back) in
    let written : map written_each (row_levels first parts) ≡ map written_each front ++ map written_each back = ap (map written_each) whole ∙ map-append written_each front back in
    let count = length (map written_each front) in
    let cut : take count (map written_each (row_levels first parts)) ≡ map written_each front = ap (take count) written ∙ take-append_seam (map written_each front) (map written_each back) in
    let P : List (List ℕ) → Type 0 = λ it. IsTooMuch it reason in
    record { count = count; exceeds = subst P (is ∙ ap texts.joined_all (sym cut)) h }

-- a gap as texts
pub gap_none : (least most : ℕ) → most ≡ 0 → written_each (gap_patterns least most) ≡ [] ∷ []
gap_none least most none = ap (λ b. written_each (if b then [] ∷ [] else (Gap least most ∷ []) ∷ [])) (eq-eqb most 0 none)

pub gap_some : (least most : ℕ) → (most ≡ 0 → ⊥) → written_each (gap_patterns least most) ≡ written (Gap least most) ∷ []
gap_some least most some =
    ap (λ b. written_each (if b then [] ∷ [] else (Gap least most ∷ []) ∷ [])) (ne_eqb most 0 some) ∙ ap (λ l. l ∷ []) (append-nil (written (Gap least most)))

-- the texts of what has a position, and of what has another one
pub not_at : (p q : ℕ) (xs : List (List Element)) → (p ≡ q → ⊥) → written_each (if p == q then xs else []) ≡ []
not_at p q xs other = ap (λ b. written_each (if b then xs else [])) (ne_eqb p q other)

pub at_it : (p q : ℕ) (xs : List (List Element)) → p ≡ q → written_each (if p == q then xs else []) ≡ written_each xs
at_it p q xs same = ap (λ b. written_each (if b then xs else [])) (eq-eqb p q same)
