-- An intersection followed by a move by one.
use Rattle.std.proofs.Common.{◌≡◌, ◌↔◌, ℕ, zero, suc, ◌+◌, ◌*◌, ◌-◌, ◌/◌, ◌%◌, ◌^◌, ◌<◌, ◌≤◌, List, [], ◌∷◌, ◌++◌, length, get_or, inr, refl, ap, ◌∙◌, sym, arith, length-append}
use Rattle.std.specs.Prelude.{bit_and, bit_or}
use Rattle.droid_pattern.specs.Places.{IsPlace}
use Rattle.droid_pattern.proofs.MoveLemmas.{IsMovedWord, moved_high, moved_both, moves_all}
use Rattle.droid_pattern.proofs.SetLemmas.{keeps_all, grown_places}
use Rattle.droid_pattern.proofs.BitLemmas.{place_below}

-- what each word has in common with the other at its place
abbrev pub kept : List ℕ → List ℕ → List ℕ
kept [] others = []
kept (w ∷ words) [] = 0 ∷ kept words []
kept (w ∷ words) (o ∷ others) = bit_and w o ∷ kept words others

pub length-kept : (words others : List ℕ) → length (kept words others) ≡ length words
length-kept [] others = refl
length-kept (w ∷ words) [] = ap suc (length-kept words [])
length-kept (w ∷ words) (o ∷ others) = ap suc (length-kept words others)

pub get_or-kept : (words others : List ℕ) (j : ℕ) → j < length words → j < length others → get_or (kept words others) j 0 ≡ bit_and (get_or words j 0) (get_or others j 0)
get_or-kept [] others j below inside = absurd (omega arith)
get_or-kept (w ∷ words) [] j below inside = absurd (omega arith)
get_or-kept (w ∷ words) (o ∷ others) zero below inside = refl
get_or-kept (w ∷ words) (o ∷ others) (suc j) below inside = get_or-kept words others j (omega arith) (omega arith)

-- the first word takes nothing from a word before
pub kept_first : (words others : List ℕ) (w : ℕ) → w ≡ get_or words 0 0 → 0 < length words → length words ≤ length others
    → IsMovedWord (kept words others) 1 0 (bit_and w (get_or others 0 0) * 2 ^ 1 % 2 ^ 64)
kept_first words others w is some enough =
    let word = get_or-kept words others 0 some (omega arith) in
    rw (is, ← word) (moved_high (kept words others) 0 0 1 (omega arith) (omega arith) (inr refl))

-- a later word takes the highest bit of the word before
pub kept_later : (words others : List ℕ) (j w before : ℕ) → w ≡ get_or words j 0 → before ≡ get_or words (j - 1) 0 → 0 < j → j < length words → length words ≤ length others
    → bit_and before (get_or others (j - 1) 0) < 2 ^ 64
    → IsMovedWord (kept words others) 1 j (bit_or (bit_and w (get_or others j 0) * 2 ^ 1 % 2 ^ 64) (bit_and before (get_or others (j - 1) 0) / 2 ^ 63))
kept_later words others j w before is is_before some inside enough fits =
    let word = get_or-kept words others j inside (omega arith) in
    let low = get_or-kept words others (j - 1) (omega arith) (omega arith) in
    let same : bit_and before (get_or others (j - 1) 0) ≡ get_or (kept words others) (j - 1) 0 = ap (λ x. bit_and x (get_or others (j - 1) 0)) is_before ∙ sym low in
    let here : bit_and w (get_or others j 0) ≡ get_or (kept words others) j 0 = ap (λ x. bit_and x (get_or others j 0)) is ∙ sym word in
    let small : get_or (kept words others) (j - 1) 0 < 2 ^ 64 = rw same at fits in
    let whole : j - 0 ≡ j = omega arith in
    rw (same, here) (rw whole at (moved_both (kept words others) j 0 1 some (omega arith) (rw whole small)))

-- all words
pub kept_all : (words others new : List ℕ) → length new ≡ length words → length words ≤ length others
    → ((j : ℕ) → j < length new → IsMovedWord (kept words others) 1 j (get_or new j 0))
    → (q : ℕ) → IsPlace new q ↔ ((q < 64 * length words) × ((p : ℕ) × IsPlace words p × IsPlace others p × (q ≡ p + 1)))
kept_all words others new len enough each q =
    let same = length-kept words others in
    let moves = moves_all (kept words others) new 1 (len ∙ sym same) each q in
    let both = keeps_all words (kept words others) others same (λ j h. get_or-kept words others j h (omega arith)) in (
      λ h.
          let (below, (p, place, low, high)) = moves.0 h in
          let (old, other) = (both p (omega arith)).0 place in
          (omega arith, (p, old, other, omega arith)),
      λ (below, (p, old, other, next)).
          moves.1 (omega arith, (p, (both p (omega arith)).1 (old, other), omega arith, omega arith)),
    )

-- the places of the words that were lengthened by one
pub kept_steps : (old pushed others moved new : List ℕ) → pushed ≡ old ++ 0 ∷ []
    → ((q : ℕ) → IsPlace moved q ↔ ((q < 64 * length pushed) × ((p : ℕ) × IsPlace pushed p × IsPlace others p × (q ≡ p + 1))))
    → ((p : ℕ) → IsPlace new p ↔ IsPlace moved p)
    → (q : ℕ) → IsPlace new q ↔ ((p : ℕ) × IsPlace old p × IsPlace others p × (q ≡ p + 1))
kept_steps old pushed others moved new is moves same q =
    let long : length pushed ≡ length old + 1 = ap length is ∙ length-append old (0 ∷ []) in (
      λ h. let (below, (p, place, other, next)) = (moves q).0 ((same q).0 h) in (p, (grown_places old 1 p).0 (rw is at place), other, next),
      λ (p, place, other, next).
          let below = place_below old p place in
          (same q).1 ((moves q).1 (omega arith, (p, rw is ((grown_places old 1 p).1 place), other, next))),
    )

-- kept first and then moved
pub kept_then : (old kept new others : List ℕ) → ((p : ℕ) → IsPlace kept p ↔ (IsPlace old p × IsPlace others p))
    → ((q : ℕ) → IsPlace new q ↔ ((p : ℕ) × IsPlace kept p × (q ≡ p + 1)))
    → (q : ℕ) → IsPlace new q ↔ ((p : ℕ) × IsPlace old p × IsPlace others p × (q ≡ p + 1))
kept_then old kept new others keeps steps q = (
  λ h. let (p, place, next) = (steps q).0 h in let k = (keeps p).0 place in (p, k.0, k.1, next),
  λ (p, place, other, next). (steps q).1 (p, (keeps p).1 (place, other), next),
)
