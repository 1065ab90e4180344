-- Items, each behind a mark.
use Rattle.std.proofs.Common.{◌≡◌, ℕ, zero, suc, ◌+◌, ◌*◌, ◌-◌, ◌<◌, ◌≤◌, List, [], ◌∷◌, ◌++◌, length, map, take, drop, get_or, refl, sym, ap, ◌∙◌, arith, append_assoc}
use Rattle.std.specs.List.{flat_map}
use Rattle.std.proofs.lemmas.List.{append-nil, drop_at, length-append, length-take-le, take_at, take_more}
use Rattle.droid_signature_file.specs.Expansions.{runs_outside, upward}
use Rattle.droid_pattern.specs.Patterns.{Choice}
use Rattle.droid_signature_pattern.specs.Written.{marked, next_mark, pair, written}

bars_append : {X : Type 0} (text : X → List ℕ) (xs ys : List X) → marked text 124 (xs ++ ys) ≡ marked text 124 xs ++ marked text 124 ys
bars_append text [] ys = refl
bars_append text (x ∷ xs) ys =
    ap (λ l. 124 ∷ (text x ++ l)) (bars_append text xs ys) ∙ ap (λ l. 124 ∷ l) (sym (append_assoc (text x) (marked text 124 xs) (marked text 124 ys)))

pub marked_append : {X : Type 0} (text : X → List ℕ) (mark : ℕ) (xs ys : List X) → marked text mark (xs ++ ys) ≡ marked text mark xs ++ marked text (next_mark mark (length xs)) ys
marked_append text mark [] ys = refl
marked_append text mark (x ∷ xs) ys =
    ap (λ l. mark ∷ (text x ++ l)) (bars_append text xs ys) ∙ ap (λ l. mark ∷ l) (sym (append_assoc (text x) (marked text 124 xs) (marked text 124 ys)))

pub marked_push : {X : Type 0} (text : X → List ℕ) (mark : ℕ) (xs : List X) (x : X) → marked text mark (xs ++ x ∷ []) ≡ marked text mark xs ++ (next_mark mark (length xs) ∷ text x)
marked_push text mark xs x = marked_append text mark xs (x ∷ []) ∙ ap (λ l. marked text mark xs ++ (next_mark mark (length xs) ∷ l)) (append-nil (text x))

-- a step of a loop
pub marked_more : {X : Type 0} (text : X → List ℕ) (mark : ℕ) (xs : List X) (i : ℕ) (x : X) (old before with_mark all : List ℕ) (next : ℕ) → i < length xs → x ≡ get_or xs i x
    → before ≡ old ++ marked text mark (take i xs) → next ≡ next_mark mark i → with_mark ≡ before ++ next ∷ [] → all ≡ with_mark ++ text x → all ≡ old ++ marked text mark (take (i + 1) xs)
marked_more text mark xs i x old before with_mark all next below is so_far mark_is one two =
    two
    ∙ ap (λ l. l ++ text x) (one ∙ ap (λ l. l ++ next ∷ []) so_far)
    ∙ append_assoc (old ++ marked text mark (take i xs)) (next ∷ []) (text x)
    ∙ append_assoc old (marked text mark (take i xs)) (next ∷ text x)
    ∙ ap (λ n. old ++ (marked text mark (take i xs) ++ (n ∷ text x))) (mark_is ∙ ap (next_mark mark) (sym (length-take-le i xs (omega arith))))
    ∙ ap (λ l. old ++ l) (sym (marked_push text mark (take i xs) x))
    ∙ ap (λ l. old ++ marked text mark l) (ap (λ y. take i xs ++ y ∷ []) is ∙ sym (take_more xs i x below))

-- numbers upward
length_upward : (n count : ℕ) → length (upward n count) ≡ count
length_upward n zero = refl
length_upward n (suc count) = ap suc (length_upward (suc n) count)

upward_append : (n a b : ℕ) → upward n (a + b) ≡ upward n a ++ upward (n + a) b
upward_append n zero b = ap (upward n) (let e : 0 + b ≡ b = omega arith in e) ∙ ap (λ k. upward k b) (let e : n ≡ n + 0 = omega arith in e)
upward_append n (suc a) b =
    ap (upward n) (let e : suc a + b ≡ suc (a + b) = omega arith in e)
    ∙ ap (λ l. n ∷ l) (upward_append (suc n) a b ∙ ap (λ k. upward (suc n) a ++ upward k b) (let e : suc n + a ≡ n + suc a = omega arith in e))

bars_length : (xs : List ℕ) → length (marked pair 124 xs) ≡ 3 * length xs
bars_length [] = refl
bars_length (x ∷ xs) = let more = bars_length xs in (let whole : suc (suc (suc (length (marked pair 124 xs)))) ≡ 3 * suc (length xs) = omega (arith, more) in whole)

-- a part of the texts of all bytes, with a mark in the place of the first bar
pub each_cut : (old with_mark all table : List ℕ) (mark from count : ℕ) → from + count ≤ 256 → 0 < count → table ≡ marked pair 124 (upward 0 256) → with_mark ≡ old ++ mark ∷ []
    → all ≡ with_mark ++ take ((from + count) * 3 - (from * 3 + 1)) (drop (from * 3 + 1) table) → all ≡ old ++ marked pair mark (upward from count)
each_cut old with_mark all table mark from zero fits some is one two = absurd (omega arith)
each_cut old with_mark all table mark from (suc k) fits some is one two =
    let rest = 256 - (from + suc k) in
    let front = marked pair 124 (upward 0 from) in
    let here = pair from ++ marked pair 124 (upward (suc from) k) in
    let back = marked pair 124 (upward (from + suc k) rest) in
    let sizes : 256 ≡ from + (suc k + rest) = omega arith in
    let parts = ap (upward 0) sizes ∙ upward_append 0 from (suc k + rest) ∙ ap (λ n. upward 0 from ++ upward n (suc k + rest)) (let e : 0 + from ≡ from = omega arith in e) ∙ ap (λ l. upward 0 from ++ l) (upward_append from (suc k) rest) in
    let bars : table ≡ front ++ (124 ∷ (here ++ back)) =
    is ∙ ap (marked pair 124) parts ∙ bars_append pair (upward 0 from) (upward from (suc k) ++ upward (from + suc k) rest) ∙ ap (λ l. front ++ l) (bars_append pair (upward from (suc k)) (upward (from + suc k) rest)) in
    let before : length (front ++ 124 ∷ []) ≡ from * 3 + 1 = omega (arith, length-append front (124 ∷ []), bars_length (upward 0 from), length_upward 0 from) in
    let long : length here ≡ (from + suc k) * 3 - (from * 3 + 1) = omega (arith, bars_length (upward (suc from) k), length_upward (suc from) k) in
    let dropped : drop (from * 3 + 1) table ≡ here ++ back = ap (drop (from * 3 + 1)) (bars ∙ sym (append_assoc front (124 ∷ []) (here ++ back))) ∙ drop_at (front ++ 124 ∷ []) (here ++ back) (from * 3 + 1) before in
    two
    ∙ ap (λ l. l ++ take ((from + suc k) * 3 - (from * 3 + 1)) (drop (from * 3 + 1) table)) one
    ∙ ap (λ l. (old ++ mark ∷ []) ++ take ((from + suc k) * 3 - (from * 3 + 1)) l) dropped
    ∙ ap (λ l. (old ++ mark ∷ []) ++ l) (take_at here back ((from + suc k) * 3 - (from * 3 + 1)) long)
    ∙ append_assoc old (mark ∷ []) here

-- none of them
pub none_cut : (text : List ℕ) (mark from count : ℕ) → count ≡ 0 → text ≡ text ++ marked pair mark (upward from count)
none_cut text mark from count none = sym (ap (λ k. text ++ marked pair mark (upward from k)) none ∙ append-nil text)

pub next_none : (mark count : ℕ) → count ≡ 0 → mark ≡ next_mark mark count
next_none mark count none = sym (ap (next_mark mark) none)

pub next_some : (mark count : ℕ) → 0 < count → 124 ≡ next_mark mark count
next_some mark zero some = absurd (omega arith)
next_some mark (suc count) some = refl

-- runs of one byte
singles : (mark : ℕ) (bs : List ℕ) → marked (flat_map pair) mark (map (λ b. b ∷ []) bs) ≡ marked pair mark bs
singles mark [] = refl
singles mark (b ∷ bs) = ap (λ l. mark ∷ (pair b ++ l)) (singles 124 bs)

pub outside_text : (low high : ℕ) (old first second all : List ℕ) (next : ℕ) → first ≡ old ++ marked pair 40 (upward 0 low) → next ≡ next_mark 40 low
    → second ≡ first ++ marked pair next (upward (high + 1) (255 - high)) → all ≡ second ++ 41 ∷ [] → all ≡ old ++ written (Choice (runs_outside low high))
outside_text low high old first second all next one mark_is two three =
    let front = upward 0 low in
    let back = upward (high + 1) (255 - high) in
    let whole : marked (flat_map pair) 40 (runs_outside low high) ≡ marked pair 40 front ++ marked pair next back =
    singles 40 (front ++ back) ∙ marked_append pair 40 front back
    ∙ ap (λ n. marked pair 40 front ++ marked pair n back) (ap (next_mark 40) (length_upward 0 low) ∙ sym mark_is) in
    three
    ∙ ap (λ l. l ++ 41 ∷ []) (two ∙ ap (λ l. l ++ marked pair next back) one ∙ append_assoc old (marked pair 40 front) (marked pair next back) ∙ ap (λ l. old ++ l) (sym whole))
    ∙ append_assoc old (marked (flat_map pair) 40 (runs_outside low high)) (41 ∷ [])

-- behind an item the mark is a bar
pub next_more : (mark i : ℕ) → 124 ≡ next_mark mark (i + 1)
next_more mark i = ap (λ k. next_mark mark k) (let e : suc i ≡ i + 1 = omega arith in e)
