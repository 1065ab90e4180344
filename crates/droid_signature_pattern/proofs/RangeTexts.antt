-- The texts of ranges of several bytes, step by step.
use Rattle.std.proofs.Common.{◌≡◌, ◌≢◌, ℕ, zero, suc, ◌+◌, ◌-◌, ◌<◌, ◌≤◌, Bool, true, false, List, [], ◌∷◌, ◌++◌, length, refl, sym, ap, ◌∙◌, arith, append_assoc}
use Rattle.std.specs.Prelude.{◌==◌, nat_lt, if◌then◌else◌}
use Rattle.std.proofs.lemmas.Bool.{ltb-true, ltb-false, eqb-true, eqb-false}
use Rattle.std.proofs.lemmas.List.{append-nil, map-append}
use Rattle.droid_pattern.specs.Patterns.{Element, Range}
use Rattle.droid_signature_file.specs.Expansions.{with_byte, any_bytes, range_before, upward_from, up_to, ranges}
use Rattle.droid_signature_pattern.specs.Written.{pair, written, written_all, written_each, behind}

pub behind_append : (front : List ℕ) (ps qs : List (List Element)) → behind front (ps ++ qs) ≡ behind front ps ++ behind front qs
behind_append front ps qs = map-append (λ es. front ++ written_all es) ps qs

pub behind_byte : (front : List ℕ) (b : ℕ) (ps : List (List Element)) → behind front (with_byte b ps) ≡ behind (front ++ pair b) ps
behind_byte front b [] = refl
behind_byte front b (es ∷ ps) =
    ap (λ l. l ∷ behind front (with_byte b ps)) (sym (append_assoc front (pair b) (written_all es))) ∙ ap (λ l. ((front ++ pair b) ++ written_all es) ∷ l) (behind_byte front b ps)

pub behind_nothing : (ps : List (List Element)) → behind [] ps ≡ written_each ps
behind_nothing ps = refl

-- the text alone
pub behind_end : (front : List ℕ) → front ∷ [] ≡ behind front ([] ∷ [])
behind_end front = ap (λ l. l ∷ []) (sym (append-nil front))

-- one byte and what is behind it, in two steps
pub upward_steps : (old first all : List (List ℕ)) (front text low lower : List ℕ) (l : ℕ) → low ≡ l ∷ lower → text ≡ front ++ pair l
    → first ≡ old ++ behind text (upward_from lower) → all ≡ first ++ behind front (range_before (l + 1) 256 (length lower)) → all ≡ old ++ behind front (upward_from low)
upward_steps old first all front text low lower l is grown one two =
    let rest = range_before (l + 1) 256 (length lower) in
    two
    ∙ ap (λ z. z ++ behind front rest) one
    ∙ append_assoc old (behind text (upward_from lower)) (behind front rest)
    ∙ ap (λ z. old ++ (behind z (upward_from lower) ++ behind front rest)) grown
    ∙ ap (λ z. old ++ (z ++ behind front rest)) (sym (behind_byte front l (upward_from lower)))
    ∙ ap (λ z. old ++ z) (sym (behind_append front (with_byte l (upward_from lower)) rest))
    ∙ ap (λ z. old ++ behind front (upward_from z)) (sym is)

pub up_to_steps : (old first all : List (List ℕ)) (front text high higher : List ℕ) (h : ℕ) → high ≡ h ∷ higher → text ≡ front ++ pair h
    → first ≡ old ++ behind front (range_before 0 h (length higher)) → all ≡ first ++ behind text (up_to higher) → all ≡ old ++ behind front (up_to high)
up_to_steps old first all front text high higher h is grown one two =
    let rest = range_before 0 h (length higher) in
    two
    ∙ ap (λ z. z ++ behind text (up_to higher)) one
    ∙ append_assoc old (behind front rest) (behind text (up_to higher))
    ∙ ap (λ z. old ++ (behind front rest ++ behind z (up_to higher))) grown
    ∙ ap (λ z. old ++ (behind front rest ++ z)) (sym (behind_byte front h (up_to higher)))
    ∙ ap (λ z. old ++ z) (sym (behind_append front rest (with_byte h (up_to higher))))
    ∙ ap (λ z. old ++ behind front (up_to z)) (sym is)

-- bounds with one first byte
same_first : (t : Bool) (l h : ℕ) (low high : List ℕ) → (l == h) ≡ t → l ≡ h → ranges (l ∷ low) (h ∷ high) ≡ with_byte l (ranges low high)
same_first true l h low high test e = ap (λ b. if b then with_byte l (ranges low high) else with_byte l (upward_from low) ++ range_before (l + 1) h (length low) ++ with_byte h (up_to high)) test
same_first false l h low high test e = absurd (eqb-false l h test e)

other_first : (t : Bool) (l h : ℕ) (low high : List ℕ) → (l == h) ≡ t → l ≢ h
    → ranges (l ∷ low) (h ∷ high) ≡ with_byte l (upward_from low) ++ range_before (l + 1) h (length low) ++ with_byte h (up_to high)
other_first true l h low high test ne = absurd (ne (eqb-true l h test))
other_first false l h low high test ne = ap (λ b. if b then with_byte l (ranges low high) else with_byte l (upward_from low) ++ range_before (l + 1) h (length low) ++ with_byte h (up_to high)) test

pub same_steps : (old all : List (List ℕ)) (front text low lower high higher : List ℕ) (l h : ℕ) → low ≡ l ∷ lower → high ≡ h ∷ higher → l ≡ h → text ≡ front ++ pair l
    → all ≡ old ++ behind text (ranges lower higher) → all ≡ old ++ behind front (ranges low high)
same_steps old all front text low lower high higher l h is is' same grown one =
    one
    ∙ ap (λ z. old ++ behind z (ranges lower higher)) grown
    ∙ ap (λ z. old ++ z) (sym (behind_byte front l (ranges lower higher)))
    ∙ ap (λ z. old ++ behind front z) (sym (same_first (l == h) l h lower higher refl same))
    ∙ ap (λ z. old ++ behind front (ranges z (h ∷ higher))) (sym is)
    ∙ ap (λ z. old ++ behind front (ranges low z)) (sym is')

pub apart_steps : (old first second all : List (List ℕ)) (front least most lower higher : List ℕ) (l h : ℕ) → l ≢ h → least ≡ front ++ pair l → most ≡ front ++ pair h
    → first ≡ old ++ behind least (upward_from lower) → second ≡ first ++ behind front (range_before (l + 1) h (length lower)) → all ≡ second ++ behind most (up_to higher)
    → all ≡ old ++ behind front (ranges (l ∷ lower) (h ∷ higher))
apart_steps old first second all front least most lower higher l h ne a b one two three =
    let up = with_byte l (upward_from lower) in
    let mid = range_before (l + 1) h (length lower) in
    let down = with_byte h (up_to higher) in
    let up_is : behind least (upward_from lower) ≡ behind front up = ap (λ z. behind z (upward_from lower)) a ∙ sym (behind_byte front l (upward_from lower)) in
    let down_is : behind most (up_to higher) ≡ behind front down = ap (λ z. behind z (up_to higher)) b ∙ sym (behind_byte front h (up_to higher)) in
    three
    ∙ ap (λ z. z ++ behind most (up_to higher)) two
    ∙ ap (λ z. (z ++ behind front mid) ++ behind most (up_to higher)) one
    ∙ ap (λ z. ((old ++ z) ++ behind front mid) ++ behind most (up_to higher)) up_is
    ∙ ap (λ z. ((old ++ behind front up) ++ behind front mid) ++ z) down_is
    ∙ ap (λ z. z ++ behind front down) (append_assoc old (behind front up) (behind front mid))
    ∙ append_assoc old (behind front up ++ behind front mid) (behind front down)
    ∙ ap (λ z. old ++ (z ++ behind front down)) (sym (behind_append front up mid))
    ∙ ap (λ z. old ++ z) (sym (behind_append front (up ++ mid) down))
    ∙ ap (λ z. old ++ behind front z) (sym (other_first (l == h) l h lower higher refl ne))

-- no byte between
none_where : (t : Bool) (low end count : ℕ) → nat_lt low end ≡ t → end ≤ low → range_before low end count ≡ []
none_where true low end count test le = let bad = ltb-true low end test in absurd (omega arith)
none_where false low end count test le = ap (λ b. if b then (Range low (end - 1) ∷ any_bytes count) ∷ [] else []) test

pub none_between : (old : List (List ℕ)) (front : List ℕ) (low end count : ℕ) → end ≤ low → old ≡ old ++ behind front (range_before low end count)
none_between old front low end count le = sym (ap (λ z. old ++ behind front z) (none_where (nat_lt low end) low end count refl le) ∙ append-nil old)

some_where : (t : Bool) (low end count : ℕ) → nat_lt low end ≡ t → low < end → range_before low end count ≡ (Range low (end - 1) ∷ any_bytes count) ∷ []
some_where true low end count test lt = ap (λ b. if b then (Range low (end - 1) ∷ any_bytes count) ∷ [] else []) test
some_where false low end count test lt = let bad = ltb-false low end test in absurd (omega arith)

pub some_between : (old all : List (List ℕ)) (front copied ranged text : List ℕ) (low end count : ℕ) → low < end → copied ≡ front → ranged ≡ copied ++ written (Range low (end - 1))
    → text ≡ ranged ++ written_all (any_bytes count) → all ≡ old ++ text ∷ [] → all ≡ old ++ behind front (range_before low end count)
some_between old all front copied ranged text low end count lt same one two three =
    three
    ∙ ap (λ z. old ++ z ∷ []) (two ∙ ap (λ z. z ++ written_all (any_bytes count)) (one ∙ ap (λ z. z ++ written (Range low (end - 1))) same)
    ∙ append_assoc front (written (Range low (end - 1))) (written_all (any_bytes count)))
    ∙ ap (λ z. old ++ behind front z) (sym (some_where (nat_lt low end) low end count refl lt))

-- one more byte, any
any_last : (count : ℕ) → written (Range 0 255) ++ written_all (any_bytes count) ≡ written_all (any_bytes count) ++ written (Range 0 255)
any_last zero = refl
any_last (suc count) = ap (λ l. written (Range 0 255) ++ l) (any_last count) ∙ sym (append_assoc (written (Range 0 255)) (written_all (any_bytes count)) (written (Range 0 255)))

pub any_more : (old text : List ℕ) (count : ℕ) → text ≡ old ++ written_all (any_bytes count) → text ++ written (Range 0 255) ≡ old ++ written_all (any_bytes (count + 1))
any_more old text count is =
    ap (λ l. l ++ written (Range 0 255)) is
    ∙ append_assoc old (written_all (any_bytes count)) (written (Range 0 255))
    ∙ ap (λ l. old ++ l) (sym (any_last count))
    ∙ ap (λ k. old ++ written_all (any_bytes k)) (let e : suc count ≡ count + 1 = omega arith in e)
