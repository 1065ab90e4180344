-- Lines are cut at line feeds, also where they come in parts.
use Rattle.std.proofs.Common.{◌≡◌, ℕ, suc, ◌+◌, ◌-◌, ◌≤◌, Bool, true, false, cond, List, [], ◌∷◌, ◌++◌, take, drop, Option, Some, None, IfSome, refl, sym, ap, subst, ◌∙◌, append_assoc, append-nil, arith}
use Rattle.std.specs.List.{slice_split, onto_first, position_from}
use Rattle.std.specs.Io.KnownBytes.{Consumes, IsAtEnd, prepend_known}
use Rattle.std.proofs.lemmas.Bool.{eqb-true}
use Rattle.std.proofs.lemmas.List.{drop-drop, drop-take}
use Rattle.droid_lines.specs.Lines.{is_line_feed, without_empty_end, lines_of}
use Rattle.droid_lines.specs.Reading.{GivesLine, HasNoFeed, MovesToFeed, where_some}

-- ---- no line feed

pub plain-append : (xs ys : List ℕ) → HasNoFeed xs → HasNoFeed ys → HasNoFeed (xs ++ ys)
plain-append [] ys p q = q
plain-append (x ∷ xs) ys p q = (p.0, plain-append xs ys p.1 q)

none_by : (b : Bool) (x : ℕ) (xs : List ℕ) (i : ℕ) (rest : Option ℕ) → is_line_feed x ≡ b → cond b (Some i) rest ≡ None → (rest ≡ None → HasNoFeed xs) → HasNoFeed (x ∷ xs)
none_by true x xs i rest is e next = absurd cc
none_by false x xs i rest is e next = (is, next e)

pub none_plain : (xs : List ℕ) (i : ℕ) → position_from is_line_feed i xs ≡ None → HasNoFeed xs
none_plain [] i e = tt
none_plain (x ∷ xs) i e = none_by (is_line_feed x) x xs i (position_from is_line_feed (i + 1) xs) refl e (none_plain xs (i + 1))

-- the first line feed has this index
pub record IsCut (xs : List ℕ) (at : ℕ) : Type 0 where
  pub plain : HasNoFeed (take at xs)
  pub cut : xs ≡ take at xs ++ 10 ∷ drop (at + 1) xs

abbrev CutFrom : List ℕ → ℕ → ℕ → Type 0
CutFrom xs i place = (at : ℕ) × (place ≡ i + at) × IsCut xs at

cut_here : (x : ℕ) (xs : List ℕ) → is_line_feed x ≡ true → IsCut (x ∷ xs) 0
cut_here x xs is = record { plain = tt; cut = ap (λ (n : ℕ). n ∷ xs) (eqb-true x 10 is) }

cut_later : (x : ℕ) (xs : List ℕ) (at : ℕ) → is_line_feed x ≡ false → IsCut xs at → IsCut (x ∷ xs) (suc at)
cut_later x xs at is later =
    let one : suc at + 1 ≡ suc (at + 1) = omega arith in
    record { plain = (is, later.plain); cut = rw one (ap (λ (l : List ℕ). x ∷ l) later.cut) }

found_by : (b : Bool) (x : ℕ) (xs : List ℕ) (i place : ℕ) (rest : Option ℕ) → is_line_feed x ≡ b → cond b (Some i) rest ≡ Some place → (rest ≡ Some place → CutFrom xs (i + 1) place) → CutFrom (x ∷ xs) i place
found_by true x xs i place rest is e next = (0, (let same : i ≡ place = cc in omega (arith, same)), cut_here x xs is)
found_by false x xs i place rest is e next = let later = next e in (suc later.0, omega (arith, later.1), cut_later x xs later.0 is later.2)

found_cut : (xs : List ℕ) (i place : ℕ) → position_from is_line_feed i xs ≡ Some place → CutFrom xs i place
found_cut [] i place e = absurd cc
found_cut (x ∷ xs) i place e = found_by (is_line_feed x) x xs i place (position_from is_line_feed (i + 1) xs) refl e (found_cut xs (i + 1) place)

pub cut_at : (xs : List ℕ) (place : ℕ) → position_from is_line_feed 0 xs ≡ Some place → IsCut xs place
cut_at xs place e =
    let found = found_cut xs 0 place e in
    let same : found.0 ≡ place = omega (arith, found.1) in
    subst (IsCut xs) same found.2

-- ---- cutting

split_cut : (front rest : List ℕ) → HasNoFeed front → slice_split is_line_feed (front ++ 10 ∷ rest) ≡ front ∷ slice_split is_line_feed rest
split_cut [] rest p = refl
split_cut (x ∷ front) rest p = rw p.0 (ap (onto_first x) (split_cut front rest p.1))

split_plain : (line : List ℕ) → HasNoFeed line → slice_split is_line_feed line ≡ line ∷ []
split_plain [] p = refl
split_plain (x ∷ xs) p = rw p.0 (ap (onto_first x) (split_plain xs p.1))

abbrev IsSomeList : {X : Type 0} → List X → Type 0
IsSomeList [] = ⊥
IsSomeList (x ∷ xs) = Unit {0}

onto_is_some : {X : Type 0} (b : Bool) (x : X) (rest : List (List X)) → IsSomeList (cond b ([] ∷ rest) (onto_first x rest))
onto_is_some true x rest = tt
onto_is_some false x [] = tt
onto_is_some false x (part ∷ parts) = tt

split_is_some : {X : Type 0} (p : X → Bool) (xs : List X) → IsSomeList (slice_split p xs)
split_is_some p [] = tt
split_is_some p (x ∷ xs) = onto_is_some (p x) x (slice_split p xs)

front_stays : (front : List ℕ) (rest : List (List ℕ)) → IsSomeList rest → without_empty_end (front ∷ rest) ≡ front ∷ without_empty_end rest
front_stays front [] some = absurd some
front_stays front (part ∷ parts) some = refl

lines_cut : (front rest : List ℕ) → HasNoFeed front → lines_of (front ++ 10 ∷ rest) ≡ front ∷ lines_of rest
unfolding lines_of
lines_cut front rest p =
    ap without_empty_end (split_cut front rest p) ∙ front_stays front (slice_split is_line_feed rest) (split_is_some is_line_feed rest)

lines_last : (x : ℕ) (xs : List ℕ) → HasNoFeed (x ∷ xs) → lines_of (x ∷ xs) ≡ (x ∷ xs) ∷ lines_of []
unfolding lines_of
lines_last x xs p = ap without_empty_end (split_plain (x ∷ xs) p)

lines_none : lines_of [] ≡ []
unfolding lines_of
lines_none = refl

-- ---- the bytes read from a script

-- the line ended at a line feed
pub gives_fed : (known rem : Option (List ℕ)) (line mid new after : List ℕ) → HasNoFeed line → Consumes known (prepend_known mid rem) line → MovesToFeed mid new line after
    → IfSome known (λ script. GivesLine script (prepend_known new rem) (Some after))
gives_fed None rem line mid new after p c moves = tt
gives_fed (Some script) None line mid new after p c moves = absurd c
gives_fed (Some script) (Some left) line mid new after p c moves =
    let front = moves.front in
    let rest = new ++ left in
    let joined : (mid ++ left) ≡ front ++ (10 ∷ rest) = ap (λ (m : List ℕ). m ++ left) moves.cut ∙ append_assoc front (10 ∷ new) left in
    let whole : script ≡ after ++ (10 ∷ rest) =
    c ∙ (ap (λ (t : List ℕ). line ++ t) joined ∙ (sym (append_assoc line front (10 ∷ rest)) ∙ ap (λ (l : List ℕ). l ++ (10 ∷ rest)) (sym moves.moved))) in
    let plain : HasNoFeed after = subst HasNoFeed (sym moves.moved) (plain-append line front p moves.plain) in
    (rest, refl, ap lines_of whole ∙ lines_cut after rest plain)

last_line : (script line : List ℕ) → HasNoFeed line → script ≡ line → GivesLine script (Some []) (where_some line)
last_line script [] p same = (ap lines_of same ∙ lines_none, refl)
last_line script (x ∷ xs) p same = ([], refl, ap lines_of same ∙ lines_last x xs p)

-- the input ended
pub gives_last : (known rem : Option (List ℕ)) (line new : List ℕ) → HasNoFeed line → Consumes known (prepend_known new rem) line → new ≡ [] → IsAtEnd rem
    → IfSome known (λ script. GivesLine script (prepend_known new rem) (where_some line))
gives_last None rem line new p c none end = tt
gives_last (Some script) None line new p c none end = absurd c
gives_last (Some script) (Some left) line new p c none end =
    let nothing : new ++ left ≡ [] = ap (λ (n : List ℕ). n ++ left) none ∙ end in
    let same : script ≡ line = c ∙ (ap (λ (t : List ℕ). line ++ t) nothing ∙ append-nil line) in
    subst (λ (t : List ℕ). GivesLine script (Some t) (where_some line)) (sym nothing) (last_line script line p same)

-- all that was held went over to the line, and more was read
pub moved_on : (known old new : Option (List ℕ)) (line mid more after : List ℕ) → Consumes known (prepend_known mid old) line → Consumes old new more → after ≡ line ++ mid → Consumes known (prepend_known more new) after
moved_on None old new line mid more after c read moved = tt
moved_on (Some script) None new line mid more after c read moved = absurd c
moved_on (Some script) (Some r) None line mid more after c read moved = absurd read
moved_on (Some script) (Some r) (Some q) line mid more after c read moved =
    c ∙ (ap (λ (t : List ℕ). line ++ (mid ++ t)) read ∙ (sym (append_assoc line mid (more ++ q)) ∙ ap (λ (l : List ℕ). l ++ (more ++ q)) (sym moved)))

-- ---- what a buffer holds between two places

pub moved_view : (chunk : List ℕ) (from to place : ℕ) → place + 1 ≤ to - from
    → drop (place + 1) (take (to - from) (drop from chunk)) ≡ take (to - (from + (place + 1))) (drop (from + (place + 1)) chunk)
moved_view chunk from to place room =
    let left = to - (from + (place + 1)) in
    let parts : to - from ≡ (place + 1) + left = omega (arith, room) in
    ap (λ (n : ℕ). drop (place + 1) (take n (drop from chunk))) parts
    ∙ (drop-take (place + 1) left (drop from chunk) ∙ ap (take left) (drop-drop (place + 1) from chunk))

pub view_empty : (chunk : List ℕ) (to : ℕ) → take (to - to) (drop to chunk) ≡ []
view_empty chunk to =
    let none : to - to ≡ 0 = omega arith in
    ap (λ (n : ℕ). take n (drop to chunk)) none

pub plain_more : (line mid after : List ℕ) → HasNoFeed line → HasNoFeed mid → after ≡ line ++ mid → HasNoFeed after
plain_more line mid after p q moved = subst HasNoFeed (sym moved) (plain-append line mid p q)
