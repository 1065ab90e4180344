-- Items up to a stop, alternatives up to a closing parenthesis, and the terms of a text.
use Rattle.std.proofs.Common.{◌≡◌, ◌⊎◌, ℕ, ◌+◌, ◌<◌, ◌≤◌, Bool, true, false, List, [], ◌∷◌, ◌++◌, length, inl, inr, ⊎_elim, refl, sym, ap, ◌∙◌, arith, append_assoc}
use Rattle.std.proofs.lemmas.Bool.{false≢true, eqb-true, or_cases}
use Rattle.std.specs.Prelude.{◌==◌}
use Rattle.std.proofs.lemmas.List.{append-nil, length-append}
use Rattle.droid_signature_file.specs.Terms.{Atom, Term, One, OneOf}
use Rattle.droid_signature_file.specs.TermText.{SpellsAtom, SpellsAtoms, SpellsAlternatives, SpellsTerm, SpellsTerms}
use Rattle.droid_signature_pattern.specs.TextFronts.{IsOnlyFront, HasNoFront, AtomsTo, InParentheses, is_stop}
use Rattle.droid_signature_pattern.proofs.ItemFronts.{heads, not_bar, not_closing, not_parenthesis, some_item}

-- no item stands at a stop
nothing_at_stop : (text : List ℕ) → is_stop text ≡ true → (a : Atom) (front rest : List ℕ) → text ≡ front ++ rest → SpellsAtom front a → ⊥
nothing_at_stop [] stop a front rest there spelled = absurd (omega (arith, some_item a front spelled, ap length there, length-append front rest))
nothing_at_stop (c ∷ text) stop a front rest there spelled =
    ⊎_elim
    (λ bar. not_bar text a front rest (ap (λ z. z ∷ text) (sym (eqb-true c 124 bar)) ∙ there) spelled)
    (λ closing. not_closing text a front rest (ap (λ z. z ∷ text) (sym (eqb-true c 41 closing)) ∙ there) spelled)
    (or_cases (c == 124) (c == 41) stop)

-- What the rest has up to a stop completes what the text has up to it.
pub record ItemsLeft (text : List ℕ) (done : List Atom) (rest : List ℕ) : Type 0 where
  pub taken : (more : List Atom) (end : List ℕ) → AtomsTo rest more end → AtomsTo text (done ++ more) end
  pub only : (all : List Atom) (end : List ℕ) → AtomsTo text all end → (more : List Atom) × AtomsTo rest more end × (all ≡ done ++ more)

pub items_start : (text : List ℕ) → ItemsLeft text [] text
items_start text = record { taken = λ more end h. h; only = λ all end h. (all, h, refl) }

with_item : (rest after : List ℕ) (a : Atom) → IsOnlyFront SpellsAtom rest a after → (more : List Atom) (end : List ℕ) → AtomsTo after more end → AtomsTo rest (a ∷ more) end
with_item rest after a first more end (front, is, spelled, stop) = (
  first.front ++ front,
  first.whole ∙ ap (λ x. first.front ++ x) is ∙ sym (append_assoc first.front front end),
  (first.front, front, refl, first.spelled, spelled),
  stop,
)

first_item : (rest after : List ℕ) (a : Atom) → is_stop rest ≡ false → IsOnlyFront SpellsAtom rest a after → (found : List Atom) (end : List ℕ) → AtomsTo rest found end
    → (more : List Atom) × (found ≡ a ∷ more) × AtomsTo after more end
first_item rest after a goes first [] end (front, is, none, stop) =
    let whole : rest ≡ end = is ∙ ap (λ x. x ++ end) none in
    absurd (false≢true (sym goes ∙ ap is_stop whole ∙ stop))
first_item rest after a goes first (a' ∷ more) end (front, is, (start, back, cut, one, others), stop) =
    let there : rest ≡ start ++ (back ++ end) = is ∙ ap (λ x. x ++ end) cut ∙ append_assoc start back end in
    let same = first.only a' start (back ++ end) there one in
    (more, ap (λ x. x ∷ more) same.0, (back, sym same.1, others, stop))

pub items_next : (text : List ℕ) (done new : List Atom) (rest after : List ℕ) (a : Atom) → is_stop rest ≡ false → IsOnlyFront SpellsAtom rest a after → new ≡ done ++ a ∷ []
    → ItemsLeft text done rest → ItemsLeft text new after
items_next text done new rest after a goes first grown left = record {
  taken = λ more end h.
      let joined : new ++ more ≡ done ++ (a ∷ more) = ap (λ x. x ++ more) grown ∙ append_assoc done (a ∷ []) more in
      rw joined (left.taken (a ∷ more) end (with_item rest after a first more end h));
  only = λ all end h.
      let (found, there, is) = left.only all end h in
      let (more, cons, others) = first_item rest after a goes first found end there in
      (more, others, is ∙ ap (λ x. done ++ x) cons ∙ sym (append_assoc done (a ∷ []) more) ∙ ap (λ x. x ++ more) (sym grown));
}

pub items_bad : (text : List ℕ) (done : List Atom) (rest : List ℕ) → is_stop rest ≡ false → HasNoFront SpellsAtom rest → ItemsLeft text done rest
    → (all : List Atom) (end : List ℕ) → AtomsTo text all end → ⊥
items_bad text done rest goes none left all end h = let (found, there, is) = left.only all end h in go found there
  where
    go : (found : List Atom) → AtomsTo rest found end → ⊥
    go [] (front, is, empty, stop) =
        let whole : rest ≡ end = is ∙ ap (λ x. x ++ end) empty in
        false≢true (sym goes ∙ ap is_stop whole ∙ stop)
    go (a ∷ more) (front, is, (start, back, cut, one, others), stop) =
        none a start (back ++ end) (is ∙ ap (λ x. x ++ end) cut ∙ append_assoc start back end) one

pub items_shrink : (rest after : List ℕ) (a : Atom) → IsOnlyFront SpellsAtom rest a after → length after < length rest
items_shrink rest after a first = omega (arith, some_item a first.front first.spelled, ap length first.whole, length-append first.front after)

pub items_end : (text : List ℕ) (done : List Atom) (rest : List ℕ) → is_stop rest ≡ true → ItemsLeft text done rest → AtomsTo text done rest
items_end text done rest stop left = rw (append-nil done) at (left.taken [] rest ([], refl, refl, stop))

pub items_only : (text : List ℕ) (done : List Atom) (rest : List ℕ) → is_stop rest ≡ true → ItemsLeft text done rest
    → (all : List Atom) (end : List ℕ) → AtomsTo text all end → (all ≡ done) × (end ≡ rest)
items_only text done rest stop left all end h = let (found, there, is) = left.only all end h in go found there is
  where
    go : (found : List Atom) → AtomsTo rest found end → all ≡ done ++ found → (all ≡ done) × (end ≡ rest)
    go [] (front, is, empty, stop') all_is = (all_is ∙ append-nil done, sym (is ∙ ap (λ x. x ++ end) empty))
    go (a ∷ more) (front, is, (start, back, cut, one, others), stop') all_is =
        absurd (nothing_at_stop rest stop a start (back ++ end) (is ∙ ap (λ x. x ++ end) cut ∙ append_assoc start back end) one)

-- These items, and no others, stand before a stop.
pub record IsOnlyItems (text : List ℕ) (atoms : List Atom) (after : List ℕ) : Type 0 where
  pub spelled : AtomsTo text atoms after
  pub some : 0 < length atoms
  pub only : (all : List Atom) (end : List ℕ) → AtomsTo text all end → (all ≡ atoms) × (end ≡ after)

-- What the rest has up to a closing parenthesis completes what the text has up to it.
pub record AlternativesLeft (text : List ℕ) (done : List (List Atom)) (rest : List ℕ) : Type 0 where
  pub taken : (more : List (List Atom)) (end : List ℕ) → InParentheses rest more end → InParentheses text (done ++ more) end
  pub only : (all : List (List Atom)) (end : List ℕ) → InParentheses text all end → (more : List (List Atom)) × InParentheses rest more end × (all ≡ done ++ more)

pub alternatives_start : (text : List ℕ) → AlternativesLeft text [] text
alternatives_start text = record { taken = λ more end h. h; only = λ all end h. (all, h, refl) }

-- the first of alternatives: its items stand before the closing parenthesis or a bar
data FirstOf (rest end : List ℕ) (found : List (List Atom)) : Type 0 where
  last : (a : List Atom) → found ≡ a ∷ [] → AtomsTo rest a (41 ∷ end) → 0 < length a → FirstOf rest end found
  earlier : (a b : List Atom) (others : List (List Atom)) (behind : List ℕ) → found ≡ a ∷ b ∷ others → AtomsTo rest a (124 ∷ behind) → 0 < length a → InParentheses behind (b ∷ others) end → FirstOf rest end found

first_of_alternatives : (rest end : List ℕ) (found : List (List Atom)) → InParentheses rest found end → FirstOf rest end found
first_of_alternatives rest end [] (body, is, none) = absurd none
first_of_alternatives rest end (a ∷ []) (body, is, (spelled, some)) = last a refl (body, is, spelled, refl) some
first_of_alternatives rest end (a ∷ b ∷ others) (body, is, (first, behind, cut, spelled, some, later)) =
    earlier a b others (behind ++ (41 ∷ end)) refl (first, is ∙ ap (λ x. x ++ (41 ∷ end)) cut ∙ append_assoc first (124 ∷ behind) (41 ∷ end), spelled, refl) some (behind, refl, later)

-- no alternatives where no items stand before a stop
pub alternatives_bad : (text : List ℕ) (done : List (List Atom)) (rest : List ℕ) → ((all : List Atom) (end : List ℕ) → AtomsTo rest all end → 0 < length all → ⊥)
    → AlternativesLeft text done rest → (all : List (List Atom)) (end : List ℕ) → InParentheses text all end → ⊥
alternatives_bad text done rest none left all end h = let (found, there, is) = left.only all end h in go found (first_of_alternatives rest end found there)
  where
    go : (found : List (List Atom)) → FirstOf rest end found → ⊥
    go found (last a cons spelled some) = none a (41 ∷ end) spelled some
    go found (earlier a b others behind cons spelled some later) = none a (124 ∷ behind) spelled some

-- nor where the text ends
pub alternatives_open : (text : List ℕ) (done : List (List Atom)) (rest after : List ℕ) (atoms : List Atom) → IsOnlyItems rest atoms after → after ≡ []
    → AlternativesLeft text done rest → (all : List (List Atom)) (end : List ℕ) → InParentheses text all end → ⊥
alternatives_open text done rest after atoms items none left all end h = let (found, there, is) = left.only all end h in go found (first_of_alternatives rest end found there)
  where
    go : (found : List (List Atom)) → FirstOf rest end found → ⊥
    go found (last a cons spelled some) = let e = (items.only a (41 ∷ end) spelled).1 in let bad : 41 ∷ end ≡ [] = e ∙ none in cc
    go found (earlier a b others behind cons spelled some later) = let e = (items.only a (124 ∷ behind) spelled).1 in let bad : 124 ∷ behind ≡ [] = e ∙ none in cc

with_alternative : (rest after behind : List ℕ) (atoms : List Atom) → IsOnlyItems rest atoms after → after ≡ 124 ∷ behind → (later : List (List Atom)) (end : List ℕ)
    → InParentheses behind later end → InParentheses rest (atoms ∷ later) end
with_alternative rest after behind atoms items bar [] end (body, is, none) = absurd none
with_alternative rest after behind atoms items bar (b ∷ later) end (body, is, others) =
    let (front, whole, spelled, stop) = items.spelled in (
      front ++ (124 ∷ body),
      whole ∙ ap (λ x. front ++ x) (bar ∙ ap (λ x. 124 ∷ x) is) ∙ sym (append_assoc front (124 ∷ body) (41 ∷ end)),
      (front, body, refl, spelled, items.some, others),
    )

first_alternative : (rest after behind : List ℕ) (atoms : List Atom) → IsOnlyItems rest atoms after → after ≡ 124 ∷ behind → (found : List (List Atom)) (end : List ℕ)
    → InParentheses rest found end → (later : List (List Atom)) × (found ≡ atoms ∷ later) × InParentheses behind later end
first_alternative rest after behind atoms items bar found end h = go found (first_of_alternatives rest end found h)
  where
    go : (found : List (List Atom)) → FirstOf rest end found → (later : List (List Atom)) × (found ≡ atoms ∷ later) × InParentheses behind later end
    go found (last a cons spelled some) =
        let e = (items.only a (41 ∷ end) spelled).1 in
        let same = (heads 41 124 end behind (e ∙ bar)).0 in absurd (omega arith)
    go found (earlier a b others behind' cons spelled some later) =
        let both = items.only a (124 ∷ behind') spelled in
        let tail = (heads 124 124 behind' behind (both.1 ∙ bar)).1 in
        (b ∷ others, cons ∙ ap (λ x. x ∷ b ∷ others) both.0, rw tail at later)

pub alternatives_next : (text : List ℕ) (done new : List (List Atom)) (rest after behind : List ℕ) (atoms : List Atom) → IsOnlyItems rest atoms after → after ≡ 124 ∷ behind → new ≡ done ++ atoms ∷ []
    → AlternativesLeft text done rest → AlternativesLeft text new behind
alternatives_next text done new rest after behind atoms items bar grown left = record {
  taken = λ later end h.
      let joined : new ++ later ≡ done ++ (atoms ∷ later) = ap (λ x. x ++ later) grown ∙ append_assoc done (atoms ∷ []) later in
      rw joined (left.taken (atoms ∷ later) end (with_alternative rest after behind atoms items bar later end h));
  only = λ all end h.
      let (found, there, is) = left.only all end h in
      let (later, cons, others) = first_alternative rest after behind atoms items bar found end there in
      (later, others, is ∙ ap (λ x. done ++ x) cons ∙ sym (append_assoc done (atoms ∷ []) later) ∙ ap (λ x. x ++ later) (sym grown));
}

pub alternatives_end : (text : List ℕ) (done new : List (List Atom)) (rest after behind : List ℕ) (atoms : List Atom) → IsOnlyItems rest atoms after → after ≡ 41 ∷ behind → new ≡ done ++ atoms ∷ []
    → AlternativesLeft text done rest → InParentheses text new behind
alternatives_end text done new rest after behind atoms items closing grown left =
    let (front, whole, spelled, stop) = items.spelled in
    rw grown (left.taken (atoms ∷ []) behind (front, whole ∙ ap (λ x. front ++ x) closing, (spelled, items.some)))

pub alternatives_only : (text : List ℕ) (done new : List (List Atom)) (rest after behind : List ℕ) (atoms : List Atom) → IsOnlyItems rest atoms after → after ≡ 41 ∷ behind → new ≡ done ++ atoms ∷ []
    → AlternativesLeft text done rest → (all : List (List Atom)) (end : List ℕ) → InParentheses text all end → (all ≡ new) × (end ≡ behind)
alternatives_only text done new rest after behind atoms items closing grown left all end h =
    let (found, there, is) = left.only all end h in
    let (same, rest_is) = go found (first_of_alternatives rest end found there) in
    (is ∙ ap (λ x. done ++ x) same ∙ sym grown, rest_is)
  where
    go : (found : List (List Atom)) → FirstOf rest end found → (found ≡ atoms ∷ []) × (end ≡ behind)
    go found (last a cons spelled some) =
        let both = items.only a (41 ∷ end) spelled in
        (cons ∙ ap (λ x. x ∷ []) both.0, (heads 41 41 end behind (both.1 ∙ closing)).1)
    go found (earlier a b others behind' cons spelled some later) =
        let e = (items.only a (124 ∷ behind') spelled).1 in
        let same = (heads 124 41 behind' behind (e ∙ closing)).0 in absurd (omega arith)

pub alternatives_shrink : (rest after behind : List ℕ) (atoms : List Atom) (c : ℕ) → IsOnlyItems rest atoms after → after ≡ c ∷ behind → length behind < length rest
alternatives_shrink rest after behind atoms c items is =
    let (front, whole, spelled, stop) = items.spelled in omega (arith, ap length is, ap length whole, length-append front after)

-- a stop that is no closing parenthesis is a bar
pub is_bar : (after behind : List ℕ) (c : ℕ) → is_stop after ≡ true → after ≡ c ∷ behind → (c ≡ 41 → ⊥) → c ≡ 124
is_bar after behind c stop is other =
    ⊎_elim (λ bar. eqb-true c 124 bar) (λ closing. absurd (other (eqb-true c 41 closing)))
    (or_cases (c == 124) (c == 41) (ap is_stop (sym is) ∙ stop))

-- The term at the front of a text: one item,
module _ (text behind : List ℕ) (c : ℕ) (is : text ≡ c ∷ behind) (other : c ≡ 40 → ⊥) where
  pub item_front : (rest : List ℕ) (a : Atom) → IsOnlyFront SpellsAtom text a rest → IsOnlyFront SpellsTerm text (One a) rest
  item_front rest a first = record { front = first.front; whole = first.whole; spelled = first.spelled; only = go }
    where
      go : (t : Term) (start after : List ℕ) → text ≡ start ++ after → SpellsTerm start t → (t ≡ One a) × (after ≡ rest)
      go (One a') start after there spelled = let same = first.only a' start after there spelled in (ap One same.0, same.1)
      go (OneOf alternatives) start after there (body, opened, spelled) =
          absurd (other (heads c 40 behind ((body ++ (41 ∷ [])) ++ after) (sym is ∙ there ∙ ap (λ z. z ++ after) opened)).0)

  pub no_item_front : HasNoFront SpellsAtom text → HasNoFront SpellsTerm text
  no_item_front none (One a) front rest there spelled = none a front rest there spelled
  no_item_front none (OneOf alternatives) front rest there (body, opened, spelled) =
      other (heads c 40 behind ((body ++ (41 ∷ [])) ++ rest) (sym is ∙ there ∙ ap (λ z. z ++ rest) opened)).0

-- or alternatives in parentheses
in_parentheses : (text behind : List ℕ) → text ≡ 40 ∷ behind → (alternatives : List (List Atom)) (start after : List ℕ) → text ≡ start ++ after → SpellsTerm start (OneOf alternatives)
    → InParentheses behind alternatives after
in_parentheses text behind is alternatives start after there (body, opened, spelled) =
    (body, (heads 40 40 behind ((body ++ (41 ∷ [])) ++ after) (sym is ∙ there ∙ ap (λ z. z ++ after) opened)).1 ∙ append_assoc body (41 ∷ []) after, spelled)

pub choice_front : (text behind rest : List ℕ) (alternatives : List (List Atom)) → text ≡ 40 ∷ behind → InParentheses behind alternatives rest
    → ((all : List (List Atom)) (end : List ℕ) → InParentheses behind all end → (all ≡ alternatives) × (end ≡ rest)) → IsOnlyFront SpellsTerm text (OneOf alternatives) rest
choice_front text behind rest alternatives is (body, whole, spelled) only = record {
  front = 40 ∷ (body ++ (41 ∷ []));
  whole = is ∙ ap (λ x. 40 ∷ x) (whole ∙ sym (append_assoc body (41 ∷ []) rest));
  spelled = (body, refl, spelled);
  only = go;
}
  where
    go : (t : Term) (start after : List ℕ) → text ≡ start ++ after → SpellsTerm start t → (t ≡ OneOf alternatives) × (after ≡ rest)
    go (One a) start after there one = absurd (not_parenthesis behind a start after (sym is ∙ there) one)
    go (OneOf others) start after there one =
        let same = only others after (in_parentheses text behind is others start after there one) in (ap OneOf same.0, same.1)

pub no_choice_front : (text behind : List ℕ) → text ≡ 40 ∷ behind → ((all : List (List Atom)) (end : List ℕ) → InParentheses behind all end → ⊥) → HasNoFront SpellsTerm text
no_choice_front text behind is none (One a) front rest there spelled = not_parenthesis behind a front rest (sym is ∙ there) spelled
no_choice_front text behind is none (OneOf others) front rest there spelled = none others rest (in_parentheses text behind is others front rest there spelled)

-- no term is written by nothing
some_term : (t : Term) (front : List ℕ) → SpellsTerm front t → 0 < length front
some_term (One a) front spelled = some_item a front spelled
some_term (OneOf alternatives) front (body, opened, spelled) = omega (arith, ap length opened)

pub no_term_of_nothing : (text : List ℕ) → text ≡ [] → HasNoFront SpellsTerm text
no_term_of_nothing text none t front rest there spelled = absurd (omega (arith, some_term t front spelled, ap length (sym none ∙ there), length-append front rest))

-- What the rest spells completes what the text spells.
pub record TermsLeft (text : List ℕ) (done : List Term) (rest : List ℕ) : Type 0 where
  pub taken : (more : List Term) → SpellsTerms rest more → SpellsTerms text (done ++ more)
  pub only : (all : List Term) → SpellsTerms text all → (more : List Term) × SpellsTerms rest more × (all ≡ done ++ more)

pub terms_start : (text : List ℕ) → TermsLeft text [] text
terms_start text = record { taken = λ more h. h; only = λ all h. (all, h, refl) }

-- what a text with one term at its front spells
first_term : (rest after : List ℕ) (t : Term) → (rest ≡ [] → ⊥) → IsOnlyFront SpellsTerm rest t after → (found : List Term) → SpellsTerms rest found
    → (more : List Term) × (found ≡ t ∷ more) × SpellsTerms after more
first_term rest after t some front [] none = absurd (some none)
first_term rest after t some front (t' ∷ more) (start, back, is, spelled, others) =
    let same = front.only t' start back is spelled in
    (more, ap (λ x. x ∷ more) same.0, rw same.1 at others)

pub terms_next : (text : List ℕ) (done new : List Term) (rest after : List ℕ) (t : Term) → (rest ≡ [] → ⊥) → IsOnlyFront SpellsTerm rest t after → new ≡ done ++ t ∷ []
    → TermsLeft text done rest → TermsLeft text new after
terms_next text done new rest after t some front grown left = record {
  taken = λ more spelled.
      let joined : new ++ more ≡ done ++ (t ∷ more) = ap (λ x. x ++ more) grown ∙ append_assoc done (t ∷ []) more in
      rw joined (left.taken (t ∷ more) (front.front, after, front.whole, front.spelled, spelled));
  only = λ all spelled.
      let (found, there, is) = left.only all spelled in
      let (more, cons, others) = first_term rest after t some front found there in
      (more, others, is ∙ ap (λ x. done ++ x) cons ∙ sym (append_assoc done (t ∷ []) more) ∙ ap (λ x. x ++ more) (sym grown));
}

pub terms_bad : (text : List ℕ) (done : List Term) (rest : List ℕ) → (rest ≡ [] → ⊥) → HasNoFront SpellsTerm rest → TermsLeft text done rest → (ts : List Term) → SpellsTerms text ts → ⊥
terms_bad text done rest some none left all spelled = let (found, there, is) = left.only all spelled in go found there
  where
    go : (found : List Term) → SpellsTerms rest found → ⊥
    go [] e = some e
    go (t ∷ more) (front, back, is, spelled', others) = none t front back is spelled'

pub terms_shrink : (rest after : List ℕ) (t : Term) → IsOnlyFront SpellsTerm rest t after → length after < length rest
terms_shrink rest after t front = omega (arith, some_term t front.front front.spelled, ap length front.whole, length-append front.front after)

pub terms_end : (text : List ℕ) (done : List Term) (rest : List ℕ) → rest ≡ [] → TermsLeft text done rest → SpellsTerms text done
terms_end text done rest none left = rw (append-nil done) at (left.taken [] none)

pub terms_only : (text : List ℕ) (done : List Term) (rest : List ℕ) → rest ≡ [] → TermsLeft text done rest → (ts : List Term) → SpellsTerms text ts → done ≡ ts
terms_only text done rest none left ts spelled =
    let (found, there, is) = left.only ts spelled in sym (is ∙ ap (λ x. done ++ x) (go found there) ∙ append-nil done)
  where
    go : (found : List Term) → SpellsTerms rest found → found ≡ []
    go [] e = refl
    go (t ∷ more) (front, back, is', spelled', others) =
        absurd (omega (arith, some_term t front spelled', ap length (sym none ∙ is'), length-append front back))
