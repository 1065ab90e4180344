-- Loops over line ends.
use Rattle.std.proofs.Common.{◌≡◌, ℕ, ◌+◌, ◌<◌, ◌≤◌, Bool, true, false, cond, eqb, ◌||◌, List, [], ◌∷◌, ◌++◌, length, drop, get_or, refl, sym, ap, ◌∙◌, append_assoc, drop-cons, add-one}
use Rattle.std.proofs.lemmas.List.{append-nil, drop_all}
use Rattle.std.specs.List.{list_any}
use Rattle.droid_xml.specs.LineEnds.{line_feed, line_feeds, with_line_feeds}

pub feeds_more : (text items whole : List ℕ) (is_behind : Bool) (place : ℕ) → place < length text → items ++ line_feeds is_behind (drop place text) ≡ whole → (items ++ line_feed is_behind (get_or text place 0)) ++ line_feeds (eqb (get_or text place 0) 13) (drop (place + 1) text) ≡ whole
feeds_more text items whole is_behind place inside so_far =
    let cell : drop place text ≡ get_or text place 0 ∷ drop (place + 1) text = rw (add-one, drop-cons text place 0) refl in
    append_assoc items (line_feed is_behind (get_or text place 0)) (line_feeds (eqb (get_or text place 0) 13) (drop (place + 1) text))
    ∙ (ap (λ rest. items ++ line_feeds is_behind rest) (sym cell) ∙ so_far)

-- a byte that is no carriage return stays where none stands before it
stays : (b : ℕ) (rest : List ℕ) (is : Bool) → is ≡ false → cond is (10 ∷ []) (b ∷ []) ++ line_feeds is rest ≡ b ∷ line_feeds false rest
stays b rest is fails = ap (λ i. cond i (10 ∷ []) (b ∷ []) ++ line_feeds i rest) fails

first_false : (a b : Bool) → (a || b) ≡ false → a ≡ false
first_false true b is = is
first_false false b is = refl

second_false : (a b : Bool) → (a || b) ≡ false → b ≡ false
second_false true b is = absurd (let impossible : true ≡ false = is in cc)
second_false false b is = is

-- without carriage returns nothing changes
pub unchanged : (text : List ℕ) → list_any (λ b. eqb b 13) text ≡ false → line_feeds false text ≡ text
unchanged [] none = refl
unchanged (b ∷ text) none = stays b text (eqb b 13) (first_false (eqb b 13) (list_any (λ b. eqb b 13) text) none) ∙ ap (λ rest. b ∷ rest) (unchanged text (second_false (eqb b 13) (list_any (λ b. eqb b 13) text) none))

pub with_feeds : (text : List ℕ) → list_any (λ b. eqb b 13) text ≡ false → with_line_feeds text ≡ text
unfolding with_line_feeds
with_feeds text none = unchanged text none

-- nothing is left
pub feeds_end : (text items : List ℕ) (is_behind : Bool) (place : ℕ) → length text ≤ place → items ++ line_feeds is_behind (drop place text) ≡ line_feeds false text → items ≡ with_line_feeds text
unfolding with_line_feeds
feeds_end text items is_behind place past so_far = sym (ap (λ (rest : List ℕ). items ++ line_feeds is_behind rest) (drop_all place text past) ∙ append-nil items) ∙ so_far
