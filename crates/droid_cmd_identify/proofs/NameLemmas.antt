-- Names are cut at their ends, also where they come in parts.
use Rattle.std.proofs.Common.{◌≡◌, ℕ, suc, ◌+◌, ◌-◌, ◌<◌, ◌≤◌, ◌==◌, min, Bool, true, false, cond, not, List, [], ◌∷◌, ◌++◌, length, take, drop, Option, Some, None, IfSome, refl, sym, ap, subst, ◌∙◌, inl, inr, append_assoc, append-nil, arith}
use Rattle.std.specs.List.{position_from}
use Rattle.std.specs.Io.KnownBytes.{Consumes, IsAtEnd, prepend_known}
use Rattle.std.proofs.lemmas.Bool.{cases_lt, eqb-true, ne_eqb}
use Rattle.std.proofs.Math.Seq.{take-append-add, take-length}
use Rattle.std.proofs.lemmas.List.{drop-drop, drop-take, length-take, length-take-le, take-append-le, take_all}
use Rattle.droid_cmd_identify.specs.NameLists.{GivesName, HasNoEnd, MovesToEnd}

-- ---- what is kept of a name

cut : (n : ℕ) (bytes : List ℕ) → take (min n (length bytes)) bytes ≡ take n bytes
cut n bytes =
    elim (cases_lt (length bytes) n) [
      | inl over ↦
          let e : min n (length bytes) ≡ length bytes = omega (arith, over) in
          ap (λ (k : ℕ). take k bytes) e ∙ take-length bytes ∙ sym (take_all n bytes (omega (arith, over)))
      | inr under ↦ let e : min n (length bytes) ≡ n = omega (arith, under) in ap (λ (k : ℕ). take k bytes) e
    ]

pub kept_more : (most : ℕ) (front name bytes : List ℕ) → name ≡ take most front
    → name ++ take (min (most - length name) (length bytes)) bytes ≡ take most (front ++ bytes)
kept_more most front name bytes is =
    ap (λ (xs : List ℕ). xs ++ take (min (most - length xs) (length bytes)) bytes) is
    ∙ elim (cases_lt (length front) most) [
      | inl short ↦
          let all : take most front ≡ front = take_all most front (omega (arith, short)) in
          let e : length front + (most - length front) ≡ most = omega (arith, short) in
          ap (λ (xs : List ℕ). xs ++ take (min (most - length xs) (length bytes)) bytes) all
          ∙ (ap (λ (xs : List ℕ). front ++ xs) (cut (most - length front) bytes)
          ∙ (sym (take-append-add front bytes (most - length front)) ∙ ap (λ (k : ℕ). take k (front ++ bytes)) e))
      | inr long ↦
          let full : length (take most front) ≡ most = length-take-le most front long in
          let none : min (most - length (take most front)) (length bytes) ≡ 0 = omega (arith, full) in
          ap (λ (k : ℕ). take most front ++ take k bytes) none ∙ (append-nil (take most front) ∙ sym (take-append-le most front bytes long))
    ]

module _ (end : ℕ) where
  -- ---- no end

  pub plain-append : (xs ys : List ℕ) → HasNoEnd end xs → HasNoEnd end ys → HasNoEnd end (xs ++ ys)
  plain-append [] ys p q = q
  plain-append (x ∷ xs) ys p q = (p.0, plain-append xs ys p.1 q)

  none_by : (b : Bool) (x : ℕ) (xs : List ℕ) (i : ℕ) (rest : Option ℕ) → (x == end) ≡ b → cond b (Some i) rest ≡ None → (rest ≡ None → HasNoEnd end xs) → HasNoEnd end (x ∷ xs)
  none_by true x xs i rest is e next = absurd cc
  none_by false x xs i rest is e next = (is, next e)

  pub none_plain : (xs : List ℕ) (i : ℕ) → position_from (λ x. x == end) i xs ≡ None → HasNoEnd end xs
  none_plain [] i e = tt
  none_plain (x ∷ xs) i e = none_by (x == end) x xs i (position_from (λ x. x == end) (i + 1) xs) refl e (none_plain xs (i + 1))

  -- the first end has this index
  pub record IsCut (xs : List ℕ) (at : ℕ) : Type 0 where
    pub plain : HasNoEnd end (take at xs)
    pub cut : xs ≡ take at xs ++ end ∷ drop (at + 1) xs

  abbrev CutFrom : List ℕ → ℕ → ℕ → Type 0
  CutFrom xs i place = (at : ℕ) × (place ≡ i + at) × IsCut xs at

  cut_here : (x : ℕ) (xs : List ℕ) → (x == end) ≡ true → IsCut (x ∷ xs) 0
  cut_here x xs is = record { plain = tt; cut = ap (λ (n : ℕ). n ∷ xs) (eqb-true x end is) }

  cut_later : (x : ℕ) (xs : List ℕ) (at : ℕ) → (x == end) ≡ false → IsCut xs at → IsCut (x ∷ xs) (suc at)
  cut_later x xs at is later =
      let one : suc at + 1 ≡ suc (at + 1) = omega arith in
      record { plain = (is, later.plain); cut = rw one (ap (λ (l : List ℕ). x ∷ l) later.cut) }

  found_by : (b : Bool) (x : ℕ) (xs : List ℕ) (i place : ℕ) (rest : Option ℕ) → (x == end) ≡ b → cond b (Some i) rest ≡ Some place → (rest ≡ Some place → CutFrom xs (i + 1) place) → CutFrom (x ∷ xs) i place
  found_by true x xs i place rest is e next = (0, (let same : i ≡ place = cc in omega (arith, same)), cut_here x xs is)
  found_by false x xs i place rest is e next = let later = next e in (suc later.0, omega (arith, later.1), cut_later x xs later.0 is later.2)

  found_cut : (xs : List ℕ) (i place : ℕ) → position_from (λ x. x == end) i xs ≡ Some place → CutFrom xs i place
  found_cut [] i place e = absurd cc
  found_cut (x ∷ xs) i place e = found_by (x == end) x xs i place (position_from (λ x. x == end) (i + 1) xs) refl e (found_cut xs (i + 1) place)

  pub cut_at : (xs : List ℕ) (place : ℕ) → position_from (λ x. x == end) 0 xs ≡ Some place → IsCut xs place
  cut_at xs place e =
      let found = found_cut xs 0 place e in
      let same : found.0 ≡ place = omega (arith, found.1) in
      subst (IsCut xs) same found.2

  -- ---- the bytes read from a list

  -- the name ended
  pub gives_ended : (known rem : Option (List ℕ)) (front mid new name after : List ℕ) → HasNoEnd end front → Consumes known (prepend_known mid rem) front → name ≡ take 4096 front → MovesToEnd end mid new name after
      → IfSome known (λ list. GivesName end list (prepend_known new rem) true after)
  gives_ended None rem front mid new name after p c is moves = tt
  gives_ended (Some list) None front mid new name after p c is moves = absurd c
  gives_ended (Some list) (Some left) front mid new name after p c is moves =
      let more = moves.more in
      let rest = new ++ left in
      let joined : (mid ++ left) ≡ more ++ (end ∷ rest) = ap (λ (m : List ℕ). m ++ left) moves.cut ∙ append_assoc more (end ∷ new) left in
      let whole : list ≡ (front ++ more) ++ (end ∷ rest) = c ∙ (ap (λ (t : List ℕ). front ++ t) joined ∙ sym (append_assoc front more (end ∷ rest))) in
      (front ++ more, rest, refl, record { plain = plain-append front more p moves.plain; cut = inl whole }, moves.kept front is)

  -- the list ended
  last_name : (list front name : List ℕ) (some : Bool) → HasNoEnd end front → list ≡ front → name ≡ take 4096 front → some ≡ not (length name == 0) → GivesName end list (Some []) some name
  last_name list [] name true p same is e = let bad : true ≡ false = e ∙ ap (λ (xs : List ℕ). not (length xs == 0)) is in cc
  last_name list [] name false p same is e = (same, refl)
  last_name list (x ∷ xs) name true p same is e = (x ∷ xs, [], refl, record { plain = p; cut = inr ((λ none. cc), same, refl) }, is)
  last_name list (x ∷ xs) name false p same is e =
      let long : 0 < length name = omega (arith, ap (λ (ys : List ℕ). length ys) is, length-take 4096 (x ∷ xs)) in
      let bad : false ≡ true = e ∙ ap (λ (b : Bool). not b) (ne_eqb (length name) 0 (λ none. omega (arith, none, long))) in
      cc

  pub gives_last : (known rem : Option (List ℕ)) (front new name : List ℕ) (some : Bool) → HasNoEnd end front → Consumes known (prepend_known new rem) front → new ≡ [] → IsAtEnd rem
      → name ≡ take 4096 front → some ≡ not (length name == 0) → IfSome known (λ list. GivesName end list (prepend_known new rem) some name)
  gives_last None rem front new name some p c none at is e = tt
  gives_last (Some list) None front new name some p c none at is e = absurd c
  gives_last (Some list) (Some left) front new name some p c none at is e =
      let nothing : new ++ left ≡ [] = ap (λ (n : List ℕ). n ++ left) none ∙ at in
      let same : list ≡ front = c ∙ (ap (λ (t : List ℕ). front ++ t) nothing ∙ append-nil front) in
      subst (λ (t : List ℕ). GivesName end list (Some t) some name) (sym nothing) (last_name list front name some p same is e)

  -- all that was held went over to the name, and more was read
  pub moved_on : (known old new : Option (List ℕ)) (front mid more : List ℕ) → Consumes known (prepend_known mid old) front → Consumes old new more → Consumes known (prepend_known more new) (front ++ mid)
  moved_on None old new front mid more c read = tt
  moved_on (Some list) None new front mid more c read = absurd c
  moved_on (Some list) (Some r) None front mid more c read = absurd read
  moved_on (Some list) (Some r) (Some q) front mid more c read =
      c ∙ (ap (λ (t : List ℕ). front ++ (mid ++ t)) read ∙ sym (append_assoc front mid (more ++ q)))

-- ---- what a buffer holds between two places

pub moved_view : (chunk : List ℕ) (from to place : ℕ) → place + 1 ≤ to - from
    → drop (place + 1) (take (to - from) (drop from chunk)) ≡ take (to - (from + (place + 1))) (drop (from + (place + 1)) chunk)
moved_view chunk from to place room =
    let left = to - (from + (place + 1)) in
    let parts : to - from ≡ (place + 1) + left = omega (arith, room) in
    ap (λ (n : ℕ). drop (place + 1) (take n (drop from chunk))) parts
    ∙ (drop-take (place + 1) left (drop from chunk) ∙ ap (take left) (drop-drop (place + 1) from chunk))

pub view_empty : (chunk : List ℕ) (to : ℕ) → take (to - to) (drop to chunk) ≡ []
view_empty chunk to =
    let none : to - to ≡ 0 = omega arith in
    ap (λ (n : ℕ). take n (drop to chunk)) none
