-- Where an input is cut into lines.
use Rattle.std.proofs.Common.{◌≡◌, ℕ, ◌+◌, ◌-◌, ◌<◌, ◌≤◌, Bool, true, false, cond, ltb, List, [], ◌∷◌, length, take, drop, Option, Some, None, refl, sym, ◌∙◌, inl, inr, ◌⊎◌, arith}
use Rattle.std.specs.List.{slice_split, onto_first, position_or_len, position_from, before_first, after_first, All}
use Rattle.std.proofs.lemmas.Bool.{ltb-true, ltb-false}
use Rattle.std.proofs.lemmas.Iterator.Adapters.{position_from-zero}
use Rattle.std.proofs.lemmas.List.{take_all, length-drop}
use Rattle.std.proofs.lemmas.List.Splits.{slice_split_first, slice_split_none}
use Rattle.std.proofs.lemmas.List.Sums.{fails_before_first}
use Rattle.droid_lines.specs.Lines.{is_line_feed, without_empty_end, lines_of}

-- a list with an item
abbrev IsSomeList : {X : Type 0} → List X → Type 0
IsSomeList [] = ⊥
IsSomeList (x ∷ xs) = Unit {0}

onto_is_some : {X : Type 0} (b : Bool) (x : X) (rest : List (List X)) → IsSomeList (cond b ([] ∷ rest) (onto_first x rest))
onto_is_some true x rest = tt
onto_is_some false x [] = tt
onto_is_some false x (part ∷ parts) = tt

split_is_some : {X : Type 0} (p : X → Bool) (xs : List X) → IsSomeList (slice_split p xs)
split_is_some p [] = tt
split_is_some p (x ∷ xs) = onto_is_some (p x) x (slice_split p xs)

front_stays : (front : List ℕ) (rest : List (List ℕ)) → IsSomeList rest → without_empty_end (front ∷ rest) ≡ front ∷ without_empty_end rest
front_stays front [] some = absurd some
front_stays front (part ∷ parts) some = refl

chosen : {A : Type 0} (b : Bool) (x : A) (o : Option A) → cond b (Some x) None ≡ o → ((b ≡ true) × (o ≡ Some x)) ⊎ ((b ≡ false) × (o ≡ None))
chosen true x o e = inl (refl, sym e)
chosen false x o e = inr (refl, sym e)

-- the place of the first line feed, where there is one
found : (input : List ℕ) (place : ℕ) → Some place ≡ position_from is_line_feed 0 input → (position_or_len is_line_feed input < length input) × (place ≡ position_or_len is_line_feed input)
found input place e =
    elim (chosen (ltb (position_or_len is_line_feed input) (length input)) (position_or_len is_line_feed input) (Some place) (position_from-zero is_line_feed input ∙ sym e)) [
      | inl there ↦ (ltb-true _ _ there.0, cc)
      | inr none ↦ absurd cc
    ]

missing : (input : List ℕ) → None ≡ position_from is_line_feed 0 input → length input ≤ position_or_len is_line_feed input
missing input e =
    elim (chosen (ltb (position_or_len is_line_feed input) (length input)) (position_or_len is_line_feed input) None (position_from-zero is_line_feed input ∙ sym e)) [
      | inl there ↦ absurd cc
      | inr none ↦ ltb-false _ _ none.0
    ]

pub lines_of_nothing : lines_of [] ≡ []
unfolding lines_of
lines_of_nothing = refl

pub lines_at_feed : (input rest : List ℕ) (place : ℕ) → Some place ≡ position_from is_line_feed 0 input → rest ≡ drop (place + 1) input
    → lines_of input ≡ take place input ∷ lines_of rest
unfolding lines_of
lines_at_feed input rest place e is_rest =
    let here = found input place e in
    rw (slice_split_first is_line_feed input 0 here.0, is_rest, here.1)
    (front_stays (before_first is_line_feed input) (slice_split is_line_feed (after_first is_line_feed input)) (split_is_some is_line_feed (after_first is_line_feed input)))

none_passes : (input : List ℕ) → length input ≤ position_or_len is_line_feed input → All (λ byte. is_line_feed byte ≡ false) input
none_passes input far k d below = fails_before_first is_line_feed input k d (omega arith)

last_stays : (line : List ℕ) → 0 < length line → without_empty_end (line ∷ []) ≡ line ∷ []
last_stays [] some = absurd (omega arith)
last_stays (byte ∷ bytes) some = refl

pub lines_at_end : (input : List ℕ) → None ≡ position_from is_line_feed 0 input → 0 < length input → lines_of input ≡ input ∷ lines_of []
unfolding lines_of
lines_at_end input e some =
    rw (slice_split_none is_line_feed input (none_passes input (missing input e))) (last_stays input some)

-- the end of a slice, as the code cuts it
pub end_of : (place : ℕ) (input : List ℕ) → take (length input - place) (drop place input) ≡ drop place input
end_of place input = take_all (length input - place) (drop place input) (omega (arith, length-drop place input))

pub empty_is : (input : List ℕ) → length input ≡ 0 → input ≡ []
empty_is [] e = refl
empty_is (byte ∷ bytes) e = absurd (omega arith)
