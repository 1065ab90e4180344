-- Bit sets that are shortened, lengthened, moved and widened.
use Rattle.std.proofs.Common.{◌≡◌, ◌↔◌, ℕ, ◌+◌, ◌*◌, ◌/◌, ◌%◌, ◌<◌, ◌≤◌, min, max, List, [], ◌∷◌, ◌++◌, length, get_or, set, take, drop, inl, inr, ap, ◌∙◌, arith, length-append}
use Rattle.std.proofs.lemmas.Bool.{cases_eq}
use Rattle.std.proofs.lemmas.List.{get_or-set_same, get_or-set_other, take_at}
use Rattle.std.specs.Prelude.{bit_and}
use Rattle.std.specs.Int.{bit_at}
use Rattle.droid_pattern.specs.Places.{IsPlace, Moves}
use Rattle.droid_pattern.proofs.BitLemmas.{place_below, place_same, place_bit, and_bits}
use Rattle.droid_pattern.proofs.SetLemmas.{cut_places, grown_places}

-- what was written back to a vector
pub written_back : (new old : List ℕ) (n : ℕ) → length new ≡ n → take n (new ++ drop (length new) old) ≡ new
written_back new old n len = take_at new (drop (length new) old) n len

-- the last word without the places past the last one
pub cleared : (words : List ℕ) (last run p : ℕ) → length words ≤ last / 64 + 1 → last / 64 < length words
    → ((i : ℕ) → i < 64 → (bit_at run i ≡ 1) ↔ ((0 ≤ i) × (i < last % 64 + 1)))
    → IsPlace (set words (last / 64) (bit_and (get_or words (last / 64) 0) run)) p ↔ (IsPlace words p × (p ≤ last))
cleared words last run p few inside says =
    let new : List ℕ = set words (last / 64) (bit_and (get_or words (last / 64) 0) run) in
    elim (cases_eq (p / 64) (last / 64)) [
      | inl same ↦
          let after = place_bit new p in
          let before = place_bit words p in
          let word : get_or new (p / 64) 0 ≡ bit_and (get_or words (p / 64) 0) run = rw same (get_or-set_same words (last / 64) (bit_and (get_or words (last / 64) 0) run) 0 inside) in
          let both = and_bits (get_or words (p / 64) 0) run (p % 64) in
          let run_says = says (p % 64) (omega arith) in (
            λ h. let b = both.0 (rw word at (after.0 h)) in (before.1 b.0, let near = (run_says.0 b.1).1 in omega arith),
            λ h. after.1 (rw word (both.1 (before.0 h.0, run_says.1 (omega arith, let near = h.1 in omega arith)))),
          )
      | inr other ↦
          let stays = place_same new words p (get_or-set_other words (last / 64) (p / 64) (bit_and (get_or words (last / 64) 0) run) 0 other) in (
            λ h. let place = stays.0 h in let below = place_below words p place in (place, omega arith),
            λ h. stays.1 h.0,
          )
    ]

pub cleared_none : (words : List ℕ) (last p : ℕ) → length words ≤ last / 64 → IsPlace words p ↔ (IsPlace words p × (p ≤ last))
cleared_none words last p few = (λ h. let below = place_below words p h in (h, omega arith), λ h. h.0)

pub bounded : (old cleared new : List ℕ) (last : ℕ)
    → ((p : ℕ) → IsPlace cleared p ↔ (IsPlace (take (last / 64 + 1) old) p × (p ≤ last))) → ((p : ℕ) → IsPlace new p ↔ IsPlace cleared p)
    → (p : ℕ) → IsPlace new p ↔ (IsPlace old p × (p ≤ last))
bounded old cleared new last clear same p =
    let cut = cut_places old (last / 64 + 1) p in (
      λ h. let c = (clear p).0 ((same p).0 h) in ((cut.0 c.0).0, c.1),
      λ h. (same p).1 ((clear p).1 (cut.1 (h.0, let near = h.1 in omega arith), h.1)),
    )

pub kept_places : (old others kept new : List ℕ) → length kept ≡ length (take (length others) old)
    → ((p : ℕ) → p < 64 * length (take (length others) old) → IsPlace kept p ↔ (IsPlace (take (length others) old) p × IsPlace others p))
    → ((p : ℕ) → IsPlace new p ↔ IsPlace kept p) → (p : ℕ) → IsPlace new p ↔ (IsPlace old p × IsPlace others p)
kept_places old others kept new len both same p =
    let cut = cut_places old (length others) p in (
      λ h.
          let k = (same p).0 h in
          let below = place_below kept p k in
          let b = (both p (omega arith)).0 k in ((cut.0 b.0).0, b.1),
      λ h.
          let c = cut.1 (h.0, place_below others p h.1) in
          (same p).1 ((both p (place_below (take (length others) old) p c)).1 (c, h.1)),
    )

-- the words of a range
pub runs_all : (words : List ℕ) (count low high : ℕ) → length words ≡ count → high / 64 + 1 ≤ count
    → ((j : ℕ) → j < count → (i : ℕ) → i < 64 → (bit_at (get_or words j 0) i ≡ 1) ↔ ((low ≤ 64 * j + i) × (64 * j + i ≤ high)))
    → (p : ℕ) → IsPlace words p ↔ ((low ≤ p) × (p ≤ high))
runs_all words count low high len all each p =
    let whole : 64 * (p / 64) + p % 64 ≡ p = omega arith in
    let bit = place_bit words p in (
      λ h. let below = place_below words p h in rw whole at ((each (p / 64) (omega arith) (p % 64) (omega arith)).0 (bit.0 h)),
      λ h. let near = h.1 in bit.1 ((each (p / 64) (omega arith) (p % 64) (omega arith)).1 (rw whole h)),
    )

-- each place moved by one
pub stepped : (old pushed moved new : List ℕ) → pushed ≡ old ++ 0 ∷ [] → Moves pushed moved 1 1 → ((p : ℕ) → IsPlace new p ↔ IsPlace moved p)
    → (q : ℕ) → IsPlace new q ↔ ((p : ℕ) × IsPlace old p × (q ≡ p + 1))
stepped old pushed moved new is moves same q =
    let long : length pushed ≡ length old + 1 = ap length is ∙ length-append old (0 ∷ []) in (
      λ h. let (below, (p, place, low, high)) = (moves q).0 ((same q).0 h) in (p, (grown_places old 1 p).0 (rw is at place), omega arith),
      λ (p, place, next).
          let below = place_below old p place in
          (same q).1 ((moves q).1 (omega arith, (p, rw is ((grown_places old 1 p).1 place), omega arith, omega arith))),
    )

-- with no word nothing moves
pub stepped_none : (words : List ℕ) → length words ≡ 0 → (q : ℕ) → IsPlace words q ↔ ((p : ℕ) × IsPlace words p × (q ≡ p + 1))
stepped_none words none q =
    let gone : (p : ℕ) → IsPlace words p → ⊥ = λ p place. (let inside = place_below words p place in omega arith) in
    (λ h. absurd (gone q h), λ (p, place, _). absurd (gone p place))

-- what a gap leads to
abbrev pub Gaps : List ℕ → List ℕ → (least more len : ℕ) → Type 0
Gaps old new least more len = (q : ℕ) → IsPlace new q ↔ ((q ≤ len) × ((p : ℕ) × IsPlace old p × (p + least ≤ q) × (q ≤ p + (least + more))))

-- from no place nowhere
pub gap_none : (old after : List ℕ) (least more len : ℕ) → ((p : ℕ) → IsPlace after p ↔ (IsPlace old p × (p ≤ len))) → ((p : ℕ) → IsPlace after p → ⊥) → Gaps old after least more len
gap_none old after least more len bound none q = (
  λ h. absurd (none q h),
  λ (near, (p, place, low, high)). absurd (none p ((bound p).1 (place, omega arith))),
)

-- a gap that reaches the end from the first place
pub gap_fill : (old after new : List ℕ) (first least more len : ℕ) → ((p : ℕ) → IsPlace after p ↔ (IsPlace old p × (p ≤ len)))
    → IsPlace after first → ((p : ℕ) → IsPlace after p → first ≤ p) → len ≤ first + least + more
    → ((q : ℕ) → IsPlace new q ↔ ((first + least ≤ q) × (q ≤ len))) → Gaps old new least more len
gap_fill old after new first least more len bound place lowest far run q = (
  λ h. let r = (run q).0 h in (r.1, (first, ((bound first).0 place).0, r.0, omega (arith, r.1))),
  λ (near, (p, there, low, high)). let from = lowest p ((bound p).1 (there, omega arith)) in (run q).1 (omega arith, near),
)

pub gap_moves : (old after grown moved widened new : List ℕ) (least more len : ℕ) → length after ≤ len / 64 + 1
    → ((p : ℕ) → IsPlace after p ↔ (IsPlace old p × (p ≤ len)))
    → length grown ≡ max (min (length after + (least + more) / 64 + 1) (len / 64 + 1)) (length after) → ((p : ℕ) → IsPlace grown p ↔ IsPlace after p)
    → length moved ≡ length grown → Moves grown moved least least → Moves moved widened 0 more
    → ((p : ℕ) → IsPlace new p ↔ (IsPlace widened p × (p ≤ len))) → Gaps old new least more len
gap_moves old after grown moved widened new least more len few bound long same len_moved moves widens last q = (
  λ h.
      let (wide, near) = (last q).0 h in
      let (below, (r, there, low, high)) = (widens q).0 wide in
      let (inside, (p, place, from, to)) = (moves r).0 there in
      (near, (p, ((bound p).0 ((same p).0 place)).0, omega arith, omega arith)),
  λ (near, (p, place, low, high)).
      let here = (bound p).1 (place, omega arith) in
      let inside = place_below after p here in
      let room : q < 64 * length grown = gap_room (length after) (length grown) p q (least + more) len few long inside near high in
      (last q).1 ((widens q).1 (omega arith, (p + least, (moves (p + least)).1 (omega arith, (p, (same p).1 here, omega arith, omega arith)), omega arith, omega arith)), near),
)
  where
    gap_room : (a g p q n len : ℕ) → a ≤ len / 64 + 1 → g ≡ max (min (a + n / 64 + 1) (len / 64 + 1)) a → p < 64 * a → q ≤ len → q ≤ p + n → q < 64 * g
    gap_room a g p q n len few long inside near high = omega arith
