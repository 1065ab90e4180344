-- The patterns of terms match the bytes that the terms stand for.
use Rattle.std.proofs.Common.{◌≡◌, ◌≢◌, ◌↔◌, ◌⊎◌, ℕ, zero, suc, ◌+◌, ◌-◌, ◌*◌, ◌<◌, ◌≤◌, List, [], ◌∷◌, ◌++◌, length, map, Contains, Option, Some, None, inl, inr, ⊎_elim, refl, sym, ap, ◌∙◌, arith}
use Rattle.std.specs.Prelude.{option_map}
use Rattle.std.specs.Char.{digit_value}
use Rattle.std.proofs.lemmas.List.Elements.{Contains-append_left, Contains-append_right, Contains-append_cases}
use Rattle.droid_pattern.specs.Patterns.{Element, Byte, AnyByte, Gap, OpenGap, Range, Except, Choice, Lang}
use Rattle.droid_pattern.specs.PatternText.{SpellsBytes}
use Rattle.droid_signature_file.specs.Terms.{Atom, Plain, Outside, Between, Quoted, Term, One, OneOf, InTurn, AreBytes, AtomMatches, AtomsMatch, AlternativesMatch, TermMatches, TermsMatch, number_after}
use Rattle.droid_signature_file.specs.TermText.{SpellsAtom, SpellsAtoms, SpellsAlternatives, SpellsTerm, SpellsTerms}
use Rattle.droid_signature_file.specs.Expansions.{MatchesAny, joined, upward, runs_outside, ranges, patterns_of_atom, patterns_of_atoms, patterns_of_each, patterns_of_choice, patterns_of_term, patterns_of, run_of, runs_of, with_run}
use Rattle.droid_signature_file.proofs.PatternSets.{same_turns, both_ways, any_one, one_element, any_append, any_joined, upward_has, singles_have}
use Rattle.droid_signature_file.proofs.RangeSets.{ranges_match}

-- digits spell bytes
pub spelled_bytes : (bytes text : List ℕ) → SpellsBytes text bytes → AreBytes bytes
spelled_bytes [] text e = tt
spelled_bytes (b ∷ bytes) text (h, l, rest, e, pair, spelled) =
    let (first, second, value) = pair in (omega arith, spelled_bytes bytes rest spelled)

-- the bytes outside a range
outside_has : (low high : ℕ) (bytes : List ℕ) → low < 256 → high < 256 → Contains (runs_outside low high) bytes ↔ AtomMatches (Outside low high) bytes
outside_has low high bytes small small' =
    let all = singles_have (upward 0 low ++ upward (high + 1) (255 - high)) bytes in (
      λ h. let (x, e, c) = all.0 h in ⊎_elim
          (λ a. let (from, to) = (upward_has 0 low x).0 a in (x, e, omega arith, inl (omega arith)))
          (λ b. let (from, to) = (upward_has (high + 1) (255 - high) x).0 b in (x, e, omega arith, inr (omega arith)))
          (Contains-append_cases (upward 0 low) (upward (high + 1) (255 - high)) x c),
      λ (x, e, byte, side). all.1 (
        x,
        e,
        ⊎_elim
            (λ a. Contains-append_left (upward 0 low) (upward (high + 1) (255 - high)) x ((upward_has 0 low x).1 (omega arith, omega arith)))
            (λ b. Contains-append_right (upward 0 low) (upward (high + 1) (255 - high)) x ((upward_has (high + 1) (255 - high) x).1 (omega arith, omega arith))) side,
      ),
    )

-- bytes one after another
Lang-bytes : (bs bytes : List ℕ) → Lang (map Byte bs) bytes ↔ (bytes ≡ bs)
Lang-bytes [] bytes = (λ e. e, λ e. e)
Lang-bytes (b ∷ bs) bytes = (
  λ (front, back, is, one, rest). is ∙ ap (λ z. z ++ back) one ∙ ap (λ z. b ∷ z) ((Lang-bytes bs back).0 rest),
  λ e. (b ∷ [], bs, e, refl, (Lang-bytes bs bs).1 refl),
)

-- one item
pub atom_match : (a : Atom) (text bytes : List ℕ) → SpellsAtom text a → MatchesAny (patterns_of_atom a) bytes ↔ AtomMatches a bytes
atom_match (Plain e) text bytes spelled = one_element e bytes
atom_match (Outside low high) text bytes (from, to, is, first, second, ordered, some) =
    let small : low < 256 = (spelled_bytes (low ∷ []) from first).0 in
    let small' : high < 256 = (spelled_bytes (high ∷ []) to second).0 in
    both_ways (one_element (Choice (runs_outside low high)) bytes) (outside_has low high bytes small small')
atom_match (Between low high) text bytes (from, to, is, first, second, bounds) =
    let all = ranges_match low high bytes 0 bounds.same (spelled_bytes low from first) (spelled_bytes high to second) bounds.ordered in (
      λ h. let (long, bs, a, b) = all.0 h in record { long = long; each = bs; from_low = a; to_high = b },
      λ w. all.1 (w.long, w.each, w.from_low, w.to_high),
    )
atom_match (Quoted run) text bytes spelled = both_ways (any_one (map Byte run) bytes) (Lang-bytes run bytes)

-- the empty pattern
empty_match : (bytes : List ℕ) → MatchesAny ([] ∷ []) bytes ↔ (bytes ≡ [])
empty_match bytes = any_one [] bytes

pub atoms_match : (atoms : List Atom) (text bytes : List ℕ) → SpellsAtoms text atoms → MatchesAny (patterns_of_atoms atoms) bytes ↔ AtomsMatch atoms bytes
atoms_match [] text bytes spelled = empty_match bytes
atoms_match (a ∷ atoms) text bytes (front, back, is, first, second) =
    both_ways (any_joined (patterns_of_atom a) (patterns_of_atoms atoms) bytes)
    (same_turns (MatchesAny (patterns_of_atom a)) (AtomMatches a) (MatchesAny (patterns_of_atoms atoms)) (AtomsMatch atoms) bytes
    (λ x. atom_match a front x first) (λ x. atoms_match atoms back x second))

-- items that are one run of bytes
run_match : (atoms : List Atom) (run bytes : List ℕ) → run_of atoms ≡ Some run → AtomsMatch atoms bytes ↔ (bytes ≡ run)
run_match [] run bytes e = let none : [] ≡ run = cc in (λ is. is ∙ none, λ is. is ∙ sym none)
run_match (Plain (Byte b) ∷ atoms) run bytes e = go (λ rest xs is. run_match atoms rest xs is) (run_of atoms) refl e
  where
    go : ((rest xs : List ℕ) → run_of atoms ≡ Some rest → AtomsMatch atoms xs ↔ (xs ≡ rest)) → (rest : Option (List ℕ)) → run_of atoms ≡ rest → option_map (λ bs. b ∷ bs) rest ≡ Some run
        → AtomsMatch (Plain (Byte b) ∷ atoms) bytes ↔ (bytes ≡ run)
    go again None is bad = absurd cc
    go again (Some rest) is whole = let both : b ∷ rest ≡ run = cc in (
      λ (front, back, cut, one, more). cut ∙ ap (λ z. z ++ back) one ∙ ap (λ z. b ∷ z) ((again rest back is).0 more) ∙ both,
      λ there. (b ∷ [], rest, there ∙ sym both, refl, (again rest rest is).1 refl),
    )
run_match (Quoted text ∷ atoms) run bytes e = go (λ rest xs is. run_match atoms rest xs is) (run_of atoms) refl e
  where
    go : ((rest xs : List ℕ) → run_of atoms ≡ Some rest → AtomsMatch atoms xs ↔ (xs ≡ rest)) → (rest : Option (List ℕ)) → run_of atoms ≡ rest → option_map (λ bs. text ++ bs) rest ≡ Some run
        → AtomsMatch (Quoted text ∷ atoms) bytes ↔ (bytes ≡ run)
    go again None is bad = absurd cc
    go again (Some rest) is whole = let both : text ++ rest ≡ run = cc in (
      λ (front, back, cut, one, more). cut ∙ ap (λ z. z ++ back) one ∙ ap (λ z. text ++ z) ((again rest back is).0 more) ∙ both,
      λ there. (text, rest, there ∙ sym both, refl, (again rest rest is).1 refl),
    )
run_match (Plain AnyByte ∷ atoms) run bytes e = absurd cc
run_match (Plain (Gap least most) ∷ atoms) run bytes e = absurd cc
run_match (Plain (OpenGap least) ∷ atoms) run bytes e = absurd cc
run_match (Plain (Range low high) ∷ atoms) run bytes e = absurd cc
run_match (Plain (Except b) ∷ atoms) run bytes e = absurd cc
run_match (Plain (Choice alternatives) ∷ atoms) run bytes e = absurd cc
run_match (Outside low high ∷ atoms) run bytes e = absurd cc
run_match (Between low high ∷ atoms) run bytes e = absurd cc

-- an item of a list is the first or a later one
Contains-cons : (x y : List ℕ) (xs : List (List ℕ)) → Contains (x ∷ xs) y ↔ ((y ≡ x) ⊎ Contains xs y)
Contains-cons x y xs = (to, λ h. ⊎_elim (λ e. (0, omega arith, sym e)) (λ (k, below, is). (suc k, omega arith, is)) h)
  where
    to : Contains (x ∷ xs) y → (y ≡ x) ⊎ Contains xs y
    to (zero, below, is) = inl (sym is)
    to (suc k, below, is) = inr (k, omega arith, is)

-- alternatives that are a run of bytes each
runs_match : (alternatives : List (List Atom)) (runs : List (List ℕ)) (bytes : List ℕ) → runs_of alternatives ≡ Some runs → Contains runs bytes ↔ AlternativesMatch alternatives bytes
runs_match [] runs bytes e = let none : [] ≡ runs = cc in (λ h. empty (rw (sym none) at h), λ none. absurd none)
  where
    empty : Contains [] bytes → ⊥
    empty (k, below, is) = absurd (omega arith)
runs_match (atoms ∷ more) runs bytes e = go (λ rest is. runs_match more rest bytes is) (run_of atoms) (runs_of more) refl refl e
  where
    go : ((rest : List (List ℕ)) → runs_of more ≡ Some rest → Contains rest bytes ↔ AlternativesMatch more bytes)
        → (run : Option (List ℕ)) (rest : Option (List (List ℕ))) → run_of atoms ≡ run → runs_of more ≡ rest → with_run run rest ≡ Some runs → Contains runs bytes ↔ AlternativesMatch (atoms ∷ more) bytes
    go again None rest is is' bad = absurd cc
    go again (Some run) None is is' bad = absurd cc
    go again (Some run) (Some rest) is is' whole =
        let both : run ∷ rest ≡ runs = cc in
        let here = run_match atoms run bytes is in
        let others = again rest is' in
        let cons = Contains-cons run bytes rest in (
          λ h. ⊎_elim (λ e'. inl (here.1 e')) (λ c. inr (others.0 c)) (cons.0 (rw (sym both) at h)),
          λ h. rw (sym both) (cons.1 (⊎_elim (λ a. inl (here.0 a)) (λ b. inr (others.1 b)) h)),
        )

-- the patterns of each alternative
each_match : (alternatives : List (List Atom)) (text bytes : List ℕ) → SpellsAlternatives text alternatives → MatchesAny (patterns_of_each alternatives) bytes ↔ AlternativesMatch alternatives bytes
each_match [] text bytes spelled = absurd spelled
each_match (a ∷ []) text bytes (spelled, some) =
    let split = any_append (patterns_of_atoms a) [] bytes in
    let here = atoms_match a text bytes spelled in (
      λ h. ⊎_elim (λ one. inl (here.0 one)) (λ none. absurd none) (split.0 h),
      λ h. split.1 (⊎_elim (λ one. inl (here.1 one)) (λ none. absurd none) h),
    )
each_match (a ∷ b ∷ more) text bytes (first, rest, is, spelled, some, others) =
    let split = any_append (patterns_of_atoms a) (patterns_of_each (b ∷ more)) bytes in
    let here = atoms_match a first bytes spelled in
    let later = each_match (b ∷ more) rest bytes others in (
      λ h. ⊎_elim (λ one. inl (here.0 one)) (λ other. inr (later.0 other)) (split.0 h),
      λ h. split.1 (⊎_elim (λ one. inl (here.1 one)) (λ other. inr (later.1 other)) h),
    )

choice_match : (runs : Option (List (List ℕ))) (alternatives : List (List Atom)) (text bytes : List ℕ) → runs_of alternatives ≡ runs → SpellsAlternatives text alternatives
    → MatchesAny (patterns_of_choice runs alternatives) bytes ↔ AlternativesMatch alternatives bytes
choice_match None alternatives text bytes is spelled = each_match alternatives text bytes spelled
choice_match (Some runs) alternatives text bytes is spelled = both_ways (one_element (Choice runs) bytes) (runs_match alternatives runs bytes is)

pub term_match : (t : Term) (text bytes : List ℕ) → SpellsTerm text t → MatchesAny (patterns_of_term t) bytes ↔ TermMatches t bytes
term_match (One a) text bytes spelled = atom_match a text bytes spelled
term_match (OneOf alternatives) text bytes (body, is, spelled) = choice_match (runs_of alternatives) alternatives body bytes refl spelled

-- all terms of a text
pub terms_match : (terms : List Term) (text bytes : List ℕ) → SpellsTerms text terms → MatchesAny (patterns_of terms) bytes ↔ TermsMatch terms bytes
terms_match [] text bytes spelled = empty_match bytes
terms_match (t ∷ terms) text bytes (front, back, is, first, second) =
    both_ways (any_joined (patterns_of_term t) (patterns_of terms) bytes)
    (same_turns (MatchesAny (patterns_of_term t)) (TermMatches t) (MatchesAny (patterns_of terms)) (TermsMatch terms) bytes
    (λ x. term_match t front x first) (λ x. terms_match terms back x second))
