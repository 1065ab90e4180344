-- The positions that an element leads to.
use Rattle.std.proofs.Common.{◌≡◌, ◌⊎◌, ◌↔◌, ℕ, zero, suc, ◌+◌, ◌-◌, ◌<◌, ◌≤◌, true, List, [], ◌∷◌, ◌++◌, length, take, drop, get_or, Contains, inl, inr, ⊎_elim, refl, sym, ap, ◌∙◌, arith}
use Rattle.std.proofs.lemmas.Bool.{cases_lt, not_from_false, not-true, eq-eqb, eqb-true, eqb-false, ne_eqb, leb-true, le-leb, and_parts, and_from}
use Rattle.std.proofs.lemmas.List.{drop_more}
use Rattle.droid_pattern.proofs.BitLemmas.{place_below}
use Rattle.std.proofs.lemmas.List.Elements.{Contains-append_left, Contains-append_right, Contains-append_cases}
use Rattle.memchr.specs.Find.{OccursAt}
use Rattle.memchr.proofs.lemmas.MatchLemmas.{OccursAt-part, OccursAt-from_part}
use Rattle.droid_pattern.specs.declared.direction.Direction.{Direction}
use Rattle.droid_pattern.specs.declared.direction.Direction.TheVariants as direction
use Rattle.droid_pattern.specs.declared.class.Class.{Class}
use Rattle.droid_pattern.specs.declared.class.Class.TheVariants as classes
use Rattle.droid_pattern.specs.Patterns.{Element, Choice, Gap, OpenGap, AnyByte}
use Rattle.droid_pattern.specs.Places.{IsPlace}
use Rattle.droid_pattern.specs.Tokens.{accepts, element_of_class}
use Rattle.droid_pattern.specs.Positions.{Leads, Steps, Reaches, IsAt, IsInside, IsChain, place_of, byte_behind}
use Rattle.droid_pattern.proofs.RunLemmas.{length_part}

-- one byte of the bytes
one_byte : (bytes : List ℕ) (p : ℕ) → p < length bytes → take (p + 1 - p) (drop p bytes) ≡ get_or bytes p 0 ∷ []
one_byte bytes p inside =
    let one : p + 1 - p ≡ 1 = omega arith in
    rw (one, drop_more bytes p 0 inside) refl

-- the bytes between two positions are one byte
single : (bytes : List ℕ) (p q x : ℕ) → p ≤ q → q ≤ length bytes → take (q - p) (drop p bytes) ≡ x ∷ [] → (q ≡ p + 1) × (x ≡ get_or bytes p 0)
single bytes p q x ordered inside e =
    let len = length_part bytes p q inside in
    let one : q ≡ p + 1 = omega (arith, ap length e) in
    let there : take (p + 1 - p) (drop p bytes) ≡ x ∷ [] = rw one at e in
    (one, let same = one_byte bytes p (omega arith) in cc)

-- what an element for one byte leads to
leads_class : (class : Class) (bytes : List ℕ) (p q : ℕ) → Leads (element_of_class class) bytes p q → (q ≡ p + 1) × (accepts class (get_or bytes p 0) ≡ true)
leads_class (classes.Byte b) bytes p q h =
    let parts = single bytes p q b h.ordered h.inside h.matched in
    (parts.0, eq-eqb (get_or bytes p 0) b (sym parts.1))
leads_class (classes.Range low high) bytes p q h =
    let parts = single bytes p q h.matched.0 h.ordered h.inside h.matched.1 in
    (parts.0, rw (← parts.1) (and_from _ _ (le-leb low h.matched.0 h.matched.2) (le-leb h.matched.0 high h.matched.3)))
leads_class (classes.Except b) bytes p q h =
    let parts = single bytes p q h.matched.0 h.ordered h.inside h.matched.1 in
    (parts.0, rw (← parts.1) (not_from_false _ (ne_eqb h.matched.0 b h.matched.2)))

class_leads : (class : Class) (bytes : List ℕ) (p : ℕ) → p + 1 ≤ length bytes → accepts class (get_or bytes p 0) ≡ true → Leads (element_of_class class) bytes p (p + 1)
class_leads (classes.Byte b) bytes p inside h =
    let byte = eqb-true (get_or bytes p 0) b h in
    record { ordered = omega arith; inside = inside; matched = one_byte bytes p (omega arith) ∙ ap (λ x. x ∷ []) byte }
class_leads (classes.Range low high) bytes p inside h =
    let both = and_parts _ _ h in
    record { ordered = omega arith; inside = inside; matched = (get_or bytes p 0, one_byte bytes p (omega arith), leb-true _ _ both.0, leb-true _ _ both.1) }
class_leads (classes.Except b) bytes p inside h =
    record { ordered = omega arith; inside = inside; matched = (get_or bytes p 0, one_byte bytes p (omega arith), eqb-false _ _ (not-true _ h)) }

-- what a run of bytes leads to
leads_literal : (literal bytes : List ℕ) (p q : ℕ) → Leads (Choice (literal ∷ [])) bytes p q → (q ≡ p + length literal) × OccursAt bytes literal p
leads_literal literal bytes p q h =
    let same = only_alternative literal _ h.matched in
    let len = length_part bytes p q h.inside in
    let far : q ≡ p + length literal = omega (arith, h.ordered, h.inside, ap length same) in
    let gone : q - p ≡ length literal = omega arith in
    (far, OccursAt-from_part bytes literal p (omega (arith, h.inside)) (rw (← gone) (sym same)))
  where
    only_alternative : (a part : List ℕ) → Contains (a ∷ []) part → a ≡ part
    only_alternative a part (zero, below, e) = e
    only_alternative a part (suc k, below, e) = absurd (omega arith)

literal_leads : (literal bytes : List ℕ) (p : ℕ) → OccursAt bytes literal p → Leads (Choice (literal ∷ [])) bytes p (p + length literal)
literal_leads literal bytes p h =
    let fits = h.fits in
    let gone : p + length literal - p ≡ length literal = omega arith in
    record { ordered = omega arith; inside = omega arith; matched = (0, omega arith, rw (gone, OccursAt-part bytes literal p h) refl) }

-- where a step of this width begins, if its first byte has this position
abbrev pub origin : Direction → ℕ → ℕ → ℕ
origin direction.End width s = s
origin direction.Start width s = s + width

-- how far that step leads from the position of the first of the bytes
abbrev pub shift_of : Direction → ℕ → ℕ
shift_of direction.End width = width
shift_of direction.Start width = 0

-- A step over `width` bytes, of which the first has the position s and passes T.
abbrev pub FixedStep : Direction → (ℕ → Type 0) → ℕ → ℕ → ℕ → ℕ → Type 0
FixedStep way T width len p q = (s : ℕ) × (s + width ≤ len) × (p ≡ origin way width s) × T s × (q ≡ s + shift_of way width)

pub class_steps : (way : Direction) (class : Class) (bytes : List ℕ) (p q : ℕ)
    → Steps way (element_of_class class) bytes p q ↔ FixedStep way (λ s. accepts class (get_or bytes s 0) ≡ true) 1 (length bytes) p q
class_steps direction.End class bytes p q = (
  λ h. let parts = leads_class class bytes p q h in (p, omega (arith, h.inside, parts.0), refl, parts.1, parts.0),
  λ (s, inside, from, passes, to). rw (from, to) (class_leads class bytes s inside passes),
)
class_steps direction.Start class bytes p q = (
  λ h. let parts = leads_class class bytes q p h in (q, omega (arith, h.inside, parts.0), parts.0, parts.1, omega arith),
  λ (s, inside, from, passes, to). let here : q ≡ s = omega arith in rw (from, here) (class_leads class bytes s inside passes),
)

pub literal_steps : (way : Direction) (literal bytes : List ℕ) (p q : ℕ)
    → Steps way (Choice (literal ∷ [])) bytes p q ↔ FixedStep way (OccursAt bytes literal) (length literal) (length bytes) p q
literal_steps direction.End literal bytes p q = (
  λ h. let parts = leads_literal literal bytes p q h in (p, omega (arith, h.inside, parts.0), refl, parts.1, parts.0),
  λ (s, inside, from, occurs, to). rw (from, to) (literal_leads literal bytes s occurs),
)
literal_steps direction.Start literal bytes p q = (
  λ h. let parts = leads_literal literal bytes q p h in (q, omega (arith, h.inside, parts.0), parts.0, parts.1, omega arith),
  λ (s, inside, from, occurs, to). let here : q ≡ s = omega arith in rw (from, here) (literal_leads literal bytes s occurs),
)

-- a step over one of two lists of alternatives is one over one of either
leads_either : (xs ys : List (List ℕ)) (bytes : List ℕ) (p q : ℕ)
    → Leads (Choice (xs ++ ys)) bytes p q ↔ (Leads (Choice xs) bytes p q ⊎ Leads (Choice ys) bytes p q)
leads_either xs ys bytes p q =
    let part = take (q - p) (drop p bytes) in (
      λ h. ⊎_elim (λ a. inl (record { ordered = h.ordered; inside = h.inside; matched = a })) (λ b. inr (record { ordered = h.ordered; inside = h.inside; matched = b })) (Contains-append_cases xs ys part h.matched),
      λ h. ⊎_elim
          (λ (a : Leads (Choice xs) bytes p q). record { ordered = a.ordered; inside = a.inside; matched = Contains-append_left xs ys part a.matched })
          (λ (b : Leads (Choice ys) bytes p q). record { ordered = b.ordered; inside = b.inside; matched = Contains-append_right xs ys part b.matched }) h,
    )

-- an alternative that doesn't stand at a position leads nowhere from there
pub choice_less : (run : List ℕ) (more : List (List ℕ)) (bytes : List ℕ) (p q : ℕ) → (OccursAt bytes run p → ⊥)
    → Leads (Choice (run ∷ more)) bytes p q → Leads (Choice more) bytes p q
choice_less run more bytes p q fails h =
    ⊎_elim (λ (a : Leads (Choice (run ∷ [])) bytes p q). absurd (fails (leads_literal run bytes p q a).1)) (λ (b : Leads (Choice more) bytes p q). b)
    ((leads_either (run ∷ []) more bytes p q).0 h)

-- and no alternative leads nowhere
pub leads_nowhere : (bytes : List ℕ) (p q : ℕ) → Leads (Choice []) bytes p q → ⊥
leads_nowhere bytes p q step = let below = step.matched.1 in omega arith

choice_either : (way : Direction) (xs ys : List (List ℕ)) (bytes : List ℕ) (p q : ℕ)
    → Steps way (Choice (xs ++ ys)) bytes p q ↔ (Steps way (Choice xs) bytes p q ⊎ Steps way (Choice ys) bytes p q)
choice_either direction.End xs ys bytes p q = leads_either xs ys bytes p q
choice_either direction.Start xs ys bytes p q = leads_either xs ys bytes q p

-- one more alternative
pub choice_more : (way : Direction) (before : List (List ℕ)) (next : List ℕ) (bytes : List ℕ) (from to found new : ℕ → Type 0)
    → Reaches way (Choice before) bytes from to → Reaches way (Choice (next ∷ [])) bytes from found
    → ((q : ℕ) → new q ↔ (to q ⊎ found q))
    → Reaches way (Choice (before ++ next ∷ [])) bytes from new
choice_more way before next bytes from to found new so_far here both q =
    let left : to q ↔ ((p : ℕ) × from p × Steps way (Choice before) bytes p q) = so_far q in
    let right : found q ↔ ((p : ℕ) × from p × Steps way (Choice (next ∷ [])) bytes p q) = here q in (
      λ h. ⊎_elim (λ a. let w = left.0 a in (w.0, w.1, (choice_either way before (next ∷ []) bytes w.0 q).1 (inl w.2)))
          (λ b. let w = right.0 b in (w.0, w.1, (choice_either way before (next ∷ []) bytes w.0 q).1 (inr w.2))) ((both q).0 h),
      λ w. ⊎_elim (λ a. (both q).1 (inl (left.1 (w.0, w.1, a)))) (λ b. (both q).1 (inr (right.1 (w.0, w.1, b)))) ((choice_either way before (next ∷ []) bytes w.0 q).0 w.2),
    )

-- what a step over one byte of a class leads to, in places
pub one_reaches : (way : Direction) (class : Class) (bytes old new : List ℕ)
    → ((q : ℕ) → IsPlace new q ↔ ((p : ℕ) × IsPlace old p × (q ≡ p + 1) × (p < length bytes) × (accepts class (byte_behind way bytes p) ≡ true)))
    → Reaches way (element_of_class class) bytes (IsAt way bytes old) (IsAt way bytes new)
one_reaches direction.End class bytes old new says q =
    let here = says q in (
      λ (near, h). let (p, place, next, inside, passes) = here.0 h in
          (p, (omega arith, place), (class_steps direction.End class bytes p q).1 (p, omega arith, refl, passes, next)),
      λ (p, (near, place), step).
          let (s, inside, from, passes, to) = (class_steps direction.End class bytes p q).0 step in
          (omega arith, here.1 (p, place, omega arith, omega arith, rw (← from) at passes)),
    )
one_reaches direction.Start class bytes old new says q =
    let len = length bytes in (
      λ (near, h).
          let (i, place, next, inside, passes) = (says (len - q)).0 h in
          let back : len - (q + 1) ≡ i = omega arith in
          let same : len - 1 - i ≡ q = omega arith in
          (q + 1, (omega arith, rw back place), (class_steps direction.Start class bytes (q + 1) q).1 (q, omega arith, refl, rw same at passes, omega arith)),
      λ (p, (near, place), step).
          let (s, inside, from, passes, to) = (class_steps direction.Start class bytes p q).0 step in
          let here : q ≡ s = omega arith in
          let byte : len - 1 - (len - p) ≡ s = omega arith in
          (omega arith, (says (len - q)).1 (len - p, place, omega arith, omega arith, rw byte passes)),
    )

pub one_inside : (T : ℕ → Type 0) (bytes old new : List ℕ)
    → ((q : ℕ) → IsPlace new q ↔ ((p : ℕ) × IsPlace old p × (q ≡ p + 1) × (p < length bytes) × T p)) → IsInside bytes new
one_inside T bytes old new says q h = let (p, place, next, inside, passes) = (says q).0 h in omega arith

-- a gap leads over `least` to `most` bytes
pub Crosses : Direction → (least most len p q : ℕ) → Type 0
Crosses direction.End least most len p q = (p + least ≤ q) × (q ≤ p + most) × (q ≤ len)
Crosses direction.Start least most len p q = (q + least ≤ p) × (p ≤ q + most) × (p ≤ len)

-- what a gap leads to, in places
pub gap_reaches : (way : Direction) (e : Element) (least most : ℕ) (bytes old new : List ℕ)
    → ((p q : ℕ) → p ≤ length bytes → q ≤ length bytes → Leads e bytes p q ↔ ((p + least ≤ q) × (q ≤ p + most)))
    → ((q : ℕ) → IsPlace new q ↔ ((q ≤ length bytes) × ((p : ℕ) × IsPlace old p × (p + least ≤ q) × (q ≤ p + most))))
    → Reaches way e bytes (IsAt way bytes old) (IsAt way bytes new)
gap_reaches direction.End e least most bytes old new leads says q = (
  λ (near, h). let (far, (p, place, low, high)) = (says q).0 h in (p, (omega arith, place), (leads p q (omega arith) near).1 (low, high)),
  λ (p, (near, place), step). let inside = step.inside in let (low, high) = (leads p q near inside).0 step in (inside, (says q).1 (inside, (p, place, low, high))),
)
gap_reaches direction.Start e least most bytes old new leads says q =
    let len = length bytes in (
      λ (near, h).
          let (far, (i, place, low, high)) = (says (len - q)).0 h in
          let back : len - (len - i) ≡ i = omega arith in
          (len - i, (omega arith, rw back place), (leads q (len - i) near (omega arith)).1 (omega arith, omega arith)),
      λ (p, (near, place), step).
          let ordered = step.ordered in
          let inside = step.inside in
          let (low, high) = (leads q p (omega arith) near).0 step in
          (omega arith, (says (len - q)).1 (omega arith, (len - p, place, omega arith, omega arith))),
    )

pub gap_inside : (least most : ℕ) (bytes old new : List ℕ)
    → ((q : ℕ) → IsPlace new q ↔ ((q ≤ length bytes) × ((p : ℕ) × IsPlace old p × (p + least ≤ q) × (q ≤ p + most)))) → IsInside bytes new
gap_inside least most bytes old new says q h = ((says q).0 h).0

-- how far the elements with no byte of their own lead
pub gap_leads : (least most : ℕ) (bytes : List ℕ) (p q : ℕ) → p ≤ length bytes → q ≤ length bytes → least ≤ most → Leads (Gap least most) bytes p q ↔ ((p + least ≤ q) × (q ≤ p + most))
gap_leads least most bytes p q near inside ordered =
    let len = length_part bytes p q inside in (
      λ h. let a = h.ordered in let b = h.matched.0 in let d = h.matched.1 in (omega arith, omega arith),
      λ (low, high). record { ordered = omega arith; inside = inside; matched = (omega arith, omega arith) },
    )

pub open_leads : (least : ℕ) (bytes : List ℕ) (p q : ℕ) → p ≤ length bytes → q ≤ length bytes → Leads (OpenGap least) bytes p q ↔ ((p + least ≤ q) × (q ≤ p + (least + length bytes)))
open_leads least bytes p q near inside =
    let len = length_part bytes p q inside in (
      λ h. let a = h.ordered in let b = h.matched in (omega arith, omega arith),
      λ (low, high). record { ordered = omega arith; inside = inside; matched = omega arith },
    )

pub any_leads : (bytes : List ℕ) (p q : ℕ) → p ≤ length bytes → q ≤ length bytes → Leads AnyByte bytes p q ↔ ((p + 1 ≤ q) × (q ≤ p + (1 + 0)))
any_leads bytes p q near inside =
    let len = length_part bytes p q inside in (
      λ h. let a = h.ordered in let b = h.matched in (omega arith, omega arith),
      λ (low, high). record { ordered = omega arith; inside = inside; matched = omega arith },
    )

-- after no byte of a literal
pub chain_none : (way : Direction) (bytes literal old : List ℕ) → IsChain way bytes literal 0 old old
chain_none way bytes literal old q = (
  λ h. (q, h, omega arith, λ j below. absurd (omega arith)),
  λ (p, place, same, each). let here : q ≡ p = omega arith in rw here place,
)

-- after one more
pub chain_more : (way : Direction) (bytes literal : List ℕ) (count wanted : ℕ) (old mid new : List ℕ) → wanted ≡ byte_behind way literal count
    → ((q : ℕ) → IsPlace new q ↔ ((p : ℕ) × IsPlace mid p × (q ≡ p + 1) × (p < length bytes) × (accepts (classes.Byte wanted) (byte_behind way bytes p) ≡ true)))
    → IsChain way bytes literal count old mid → IsChain way bytes literal (count + 1) old new
chain_more way bytes literal count wanted old mid new is one so_far q = (
  λ h.
      let (r, there, next, inside, passes) = (one q).0 h in
      let (p, place, far, each) = (so_far r).0 there in
      let byte = eqb-true (byte_behind way bytes r) wanted passes ∙ is in (
        p,
        place,
        omega arith,
        λ j below. elim (cases_lt j count) [
          | inl before ↦ each j before
          | inr from ↦ let last : j ≡ count = omega arith in let here : p + count ≡ r = omega arith in rw (last, here) (inside, byte)
        ],
      ),
  λ (p, place, far, each).
      let last = each count (omega arith) in
      (one q).1 (p + count, (so_far (p + count)).1 (p, place, refl, λ j below. each j (omega arith)), omega arith, last.0, eq-eqb _ _ (last.1 ∙ sym is)),
)

pub chain_inside : (way : Direction) (bytes literal : List ℕ) (count : ℕ) (old new : List ℕ) → IsInside bytes old → IsChain way bytes literal count old new → IsInside bytes new
chain_inside way bytes literal count old new inside chain q h =
    let (p, place, far, each) = (chain q).0 h in
    elim (cases_lt 0 count) [
      | inl some ↦ let last = (each (count - 1) (omega arith)).0 in omega arith
      | inr none ↦ let near = inside p place in omega arith
    ]

-- what a run of bytes leads to, in places
pub chain_reaches : (way : Direction) (bytes literal old new : List ℕ) → IsChain way bytes literal (length literal) old new
    → Reaches way (Choice (literal ∷ [])) bytes (IsAt way bytes old) (IsAt way bytes new)
chain_reaches direction.End bytes literal old new chain q = (
  λ (near, h).
      let (p, place, far, each) = (chain q).0 h in
      (p, (omega arith, place), (literal_steps direction.End literal bytes p q).1 (p, omega arith, refl, record { fits = omega arith; reads = λ j below. (each j below).1 }, far)),
  λ (p, (near, place), step).
      let (s, inside, from, occurs, to) = (literal_steps direction.End literal bytes p q).0 step in
      (omega arith, (chain q).1 (s, rw from at place, to, λ j below. (omega arith, occurs.reads j below))),
)
chain_reaches direction.Start bytes literal old new chain q =
    let len = length bytes in
    let n = length literal in (
      λ (near, h).
          let (i, place, far, each) = (chain (len - q)).0 h in
          let back : len - (len - i) ≡ i = omega arith in
          let reads : (j : ℕ) → j < n → get_or bytes (q + j) 0 ≡ get_or literal j 0 = λ j below.
          let w = (each (n - 1 - j) (omega arith)).1 in
          let byte : len - 1 - (i + (n - 1 - j)) ≡ q + j = omega arith in
          let letter : n - 1 - (n - 1 - j) ≡ j = omega arith in
          rw (byte, letter) at w in
          (len - i, (omega arith, rw back place), (literal_steps direction.Start literal bytes (len - i) q).1 (q, omega arith, omega arith, record { fits = omega arith; reads = reads }, omega arith)),
      λ (p, (near, place), step).
          let (s, inside, from, occurs, to) = (literal_steps direction.Start literal bytes p q).0 step in
          let here : q ≡ s = omega arith in (
            omega arith,
            (chain (len - q)).1 (
              len - p,
              place,
              omega arith,
              λ j below.
                  let byte : len - 1 - (len - p + j) ≡ s + (n - 1 - j) = omega arith in
                  (omega arith, rw byte (occurs.reads (n - 1 - j) (omega arith))),
            ),
          ),
    )

-- the union of the positions of two sets
pub at_join : (way : Direction) (bytes one other new : List ℕ) → ((p : ℕ) → IsPlace new p ↔ (IsPlace one p ⊎ IsPlace other p))
    → (q : ℕ) → IsAt way bytes new q ↔ (IsAt way bytes one q ⊎ IsAt way bytes other q)
at_join way bytes one other new both q =
    let here = both (place_of way (length bytes) q) in (
      λ (near, h). ⊎_elim (λ a. inl (near, a)) (λ b. inr (near, b)) (here.0 h),
      λ h. ⊎_elim (λ a. (a.0, here.1 (inl a.1))) (λ b. (b.0, here.1 (inr b.1))) h,
    )

pub inside_join : (bytes one other new : List ℕ) → ((p : ℕ) → IsPlace new p ↔ (IsPlace one p ⊎ IsPlace other p)) → IsInside bytes one → IsInside bytes other → IsInside bytes new
inside_join bytes one other new both a b p h = ⊎_elim (λ x. a p x) (λ x. b p x) ((both p).0 h)

-- no alternative leads anywhere
pub choice_none : (way : Direction) (bytes : List ℕ) (from : ℕ → Type 0) → Reaches way (Choice []) bytes from (IsAt way bytes [])
choice_none way bytes from q = (
  λ (near, h). let below = place_below [] (place_of way (length bytes) q) h in absurd (omega arith),
  λ (p, before, step). absurd (nowhere way p q step),
)
  where
    nowhere : (way : Direction) (p q : ℕ) → Steps way (Choice []) bytes p q → ⊥
    nowhere direction.End p q step = let below = step.matched.1 in omega arith
    nowhere direction.Start p q step = let below = step.matched.1 in omega arith

pub none_inside : (bytes : List ℕ) → IsInside bytes []
none_inside bytes p h = let below = place_below [] p h in absurd (omega arith)

-- one byte of a class, by the places that are kept and then moved
pub one_after : (T : ℕ → Type 0) (bytes old kept new : List ℕ) → ((p : ℕ) → IsPlace kept p ↔ (IsPlace old p × (p < length bytes) × T p))
    → ((q : ℕ) → IsPlace new q ↔ ((p : ℕ) × IsPlace kept p × (q ≡ p + 1)))
    → (q : ℕ) → IsPlace new q ↔ ((p : ℕ) × IsPlace old p × (q ≡ p + 1) × (p < length bytes) × T p)
one_after T bytes old kept new keeps steps q = (
  λ h. let (p, there, next) = (steps q).0 h in let k = (keeps p).0 there in (p, k.0, next, k.1, k.2),
  λ (p, place, next, inside, passes). (steps q).1 (p, (keeps p).1 (place, inside, passes), next),
)
