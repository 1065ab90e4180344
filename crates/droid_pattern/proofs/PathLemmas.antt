-- Whole patterns: from position to position, over one element after another.
use Rattle.std.proofs.Common.{◌≡◌, ◌↔◌, ℕ, ◌+◌, ◌-◌, ◌<◌, ◌≤◌, min, Bool, true, false, not, get_or, List, [], ◌∷◌, ◌++◌, length, take, drop, refl, sym, ap, ◌∙◌, arith, take-add, drop-drop, take_at, drop_at, take-take, length-append, length-take, length-drop}
use Rattle.std.proofs.lemmas.List.{drop-take, drop_more, take_rest, take_more, take_all}
use Rattle.std.proofs.lemmas.Bool.{not-true, not_from_false, false_from_ne_true}
use Rattle.droid_pattern.specs.declared.direction.Direction.{Direction}
use Rattle.droid_pattern.specs.declared.direction.Direction.TheVariants as direction
use Rattle.droid_pattern.specs.Patterns.{Element, Lang, BeginsWithin, EndsWithin, MatchesTo}
use Rattle.droid_pattern.specs.Positions.{Path, Reaches, IsAt, IsInside, place_of}
use Rattle.droid_pattern.specs.Places.{IsPlace}

-- where a list that is cut in two begins and goes on
cut : (k : ℕ) (xs front back : List ℕ) → k ≤ length xs → take k xs ≡ front ++ back
    → (length front + length back ≡ k) × (take (length front) xs ≡ front) × (take (length back) (drop (length front) xs) ≡ back)
cut k xs front back inside e =
    let sum : length front + length back ≡ k = omega (arith, ap length e, length-append front back, length-take k xs) in
    let first : take (length front) xs ≡ front =
    sym (take-take (length front) k xs (omega arith)) ∙ ap (take (length front)) e ∙ take_at front back (length front) refl in
    let second : take (length back) (drop (length front) xs) ≡ back =
    sym (drop-take (length front) (length back) xs) ∙ ap (λ n. drop (length front) (take n xs)) sum ∙ ap (drop (length front)) e ∙ drop_at front back (length front) refl in
    (sum, first, second)

-- bytes in the language make a path
pub Path-from_lang : (es : List Element) (bytes : List ℕ) (p k : ℕ) → p + k ≤ length bytes → Lang es (take k (drop p bytes)) → Path es bytes p (p + k)
Path-from_lang [] bytes p k inside e =
    let none : k ≡ 0 = omega (arith, ap length e, length-take k (drop p bytes), length-drop p bytes) in omega arith
Path-from_lang (e ∷ es) bytes p k inside (front, back, both, matched, rest) =
    let parts = cut k (drop p bytes) front back (omega (arith, length-drop p bytes)) both in
    let r = p + length front in
    let gone : r - p ≡ length front = omega arith in
    let back_at : take (length back) (drop r bytes) ≡ back = ap (take (length back)) (sym (drop-drop (length front) p bytes)) ∙ parts.2 in
    let there : r + length back ≡ p + k = omega (arith, parts.0) in
    let after : Path es bytes r (r + length back) = Path-from_lang es bytes r (length back) (omega arith) (rw back_at rest) in (
      r,
      record { ordered = omega arith; inside = omega arith; matched = rw (gone, parts.1) matched },
      rw there at after,
    )

-- and a path goes over bytes in the language
pub lang-from_path : (es : List Element) (bytes : List ℕ) (p q : ℕ) → p ≤ length bytes → Path es bytes p q → (p ≤ q) × (q ≤ length bytes) × Lang es (take (q - p) (drop p bytes))
lang-from_path [] bytes p q inside e =
    let none : q - p ≡ 0 = omega arith in
    (omega arith, omega arith, rw none refl)
lang-from_path (e ∷ es) bytes p q inside (r, leads, path) =
    let after = lang-from_path es bytes r q leads.inside path in
    let ordered = leads.ordered in
    let far : q - p ≡ (r - p) + (q - r) = omega (arith, after.0) in
    let here : p + (r - p) ≡ r = omega arith in (
      omega (arith, after.0),
      after.1,
      (
        take (r - p) (drop p bytes),
        take (q - r) (drop r bytes),
        rw far (take-add (r - p) (q - r) (drop p bytes)) ∙ ap (λ xs. take (r - p) (drop p bytes) ++ take (q - r) xs) (drop-drop (r - p) p bytes ∙ ap (λ n. drop n bytes) here),
        leads.matched,
        after.2,
      ),
    )

-- a path over two lists of elements is one over each
pub Path-append : (es fs : List Element) (bytes : List ℕ) (p q : ℕ) → Path (es ++ fs) bytes p q ↔ ((r : ℕ) × Path es bytes p r × Path fs bytes r q)
Path-append [] fs bytes p q = (λ h. (p, refl, h), λ (r, e, h). rw e h)
Path-append (e ∷ es) fs bytes p q = (
  λ (r, leads, path). let more = (Path-append es fs bytes r q).0 path in (more.0, (r, leads, more.1), more.2),
  λ (s, (r, leads, path), more). (r, leads, (Path-append es fs bytes r q).1 (s, path, more)),
)

-- the first position of a match within these offsets is among the positions
pub begins_from : (es : List Element) (bytes : List ℕ) (low high : ℕ) (starts : ℕ → Type 0)
    → ((p : ℕ) → starts p ↔ ((low ≤ p) × (p ≤ min high (length bytes))))
    → BeginsWithin es bytes low high ↔ ((p : ℕ) × starts p × ((q : ℕ) × Path es bytes p q))
begins_from es bytes low high starts says = (
  λ h. (h.offset, (says h.offset).1 (h.from_low, omega (arith, h.to_high, h.inside)), (h.offset + h.count, Path-from_lang es bytes h.offset h.count h.inside h.matched)),
  λ (p, position, (q, path)).
      let within = (says p).0 position in
      let whole = lang-from_path es bytes p q (omega (arith, within.1)) path in
      record { offset = p; count = q - p; from_low = within.0; to_high = omega (arith, within.1); inside = omega (arith, whole.0, whole.1); matched = whole.2 },
)

-- one step on
pub begins_more : {B : Type 0} (e : Element) (es : List Element) (bytes : List ℕ) (from to : ℕ → Type 0)
    → (B ↔ ((p : ℕ) × from p × ((q : ℕ) × Path (e ∷ es) bytes p q)))
    → Reaches direction.End e bytes from to
    → B ↔ ((p : ℕ) × to p × ((q : ℕ) × Path es bytes p q))
begins_more e es bytes from to so_far step = (
  λ b. let (p, position, (q, (r, leads, path))) = so_far.0 b in (r, (step r).1 (p, position, leads), (q, path)),
  λ (r, position, (q, path)). let (p, before, leads) = (step r).0 position in so_far.1 (p, before, (q, (r, leads, path))),
)

-- the last position of a match within these offsets from the end is among the positions
pub ends_from : (es : List Element) (bytes : List ℕ) (low high : ℕ) (ends : ℕ → Type 0)
    → ((q : ℕ) → ends q ↔ ((low + q ≤ length bytes) × (length bytes ≤ high + q)))
    → EndsWithin es bytes low high ↔ ((q : ℕ) × ends q × ((p : ℕ) × (p ≤ length bytes) × Path es bytes p q))
ends_from es bytes low high ends says = (
  λ h.
      let inside = h.inside in
      let p = length bytes - (h.offset + h.count) in
      let q = length bytes - h.offset in
      let there : p + h.count ≡ q = omega arith in
      let path = Path-from_lang es bytes p h.count (omega arith) h.matched in
      (q, (says q).1 (omega (arith, h.from_low), omega (arith, h.to_high)), (p, omega arith, rw there at path)),
  λ (q, position, (p, first, path)).
      let within = (says q).0 position in
      let whole = lang-from_path es bytes p q first path in
      let here : length bytes - ((length bytes - q) + (q - p)) ≡ p = omega (arith, whole.0, whole.1) in
      record {
        offset = length bytes - q;
        count = q - p;
        from_low = omega (arith, within.0);
        to_high = omega (arith, within.1);
        inside = omega (arith, whole.0, whole.1);
        matched = rw here whole.2;
      },
)

-- one more step toward the start
pub ends_more : {B : Type 0} (e : Element) (es : List Element) (bytes : List ℕ) (from to : ℕ → Type 0)
    → (B ↔ ((q : ℕ) × from q × ((p : ℕ) × (p ≤ length bytes) × Path (es ++ e ∷ []) bytes p q)))
    → Reaches direction.Start e bytes from to
    → B ↔ ((q : ℕ) × to q × ((p : ℕ) × (p ≤ length bytes) × Path es bytes p q))
ends_more e es bytes from to so_far step = (
  λ b.
      let (q, position, (p, first, path)) = so_far.0 b in
      let (r, before, (s, leads, last)) = (Path-append es (e ∷ []) bytes p q).0 path in
      (r, (step r).1 (q, position, rw last at leads), (p, first, before)),
  λ (r, position, (p, first, path)).
      let (q, after, leads) = (step r).0 position in
      so_far.1 (q, after, (p, first, (Path-append es (e ∷ []) bytes p q).1 (r, path, (q, leads, refl)))),
)

-- a list with an element has a first one and the rest
pub first_and_rest : {X : Type 0} (xs : List X) (x : X) → 0 < length xs → x ≡ get_or xs 0 x → xs ≡ x ∷ take (length xs - 1) (drop 1 xs)
first_and_rest xs x some read = drop_more xs 0 x some ∙ ap (λ y. y ∷ drop 1 xs) (sym read) ∙ ap (λ ys. x ∷ ys) (sym (take_rest xs 1))

-- with no element left, a match is there exactly where there is a position
pub begins_last : {B : Type 0} (bytes : List ℕ) (positions : ℕ → Type 0) (empty : Bool) → (empty ≡ true → (p : ℕ) → positions p → ⊥) → (empty ≡ false → (p : ℕ) × positions p)
    → (B ↔ ((p : ℕ) × positions p × ((q : ℕ) × Path [] bytes p q))) → (not empty ≡ true) ↔ B
begins_last bytes positions empty none some so_far = (
  λ h. let (p, position) = some (not-true empty h) in so_far.1 (p, position, (p, refl)),
  λ b. let (p, position, more) = so_far.0 b in not_from_false empty (false_from_ne_true empty (λ e. none e p position)),
)

pub ends_last : {B : Type 0} (bytes : List ℕ) (positions : ℕ → Type 0) (empty : Bool) → (empty ≡ true → (p : ℕ) → positions p → ⊥) → (empty ≡ false → (p : ℕ) × positions p) → ((q : ℕ) → positions q → q ≤ length bytes)
    → (B ↔ ((q : ℕ) × positions q × ((p : ℕ) × (p ≤ length bytes) × Path [] bytes p q))) → (not empty ≡ true) ↔ B
ends_last bytes positions empty none some inside so_far = (
  λ h. let (q, position) = some (not-true empty h) in so_far.1 (q, position, (q, inside q position, refl)),
  λ b. let (q, position, more) = so_far.0 b in not_from_false empty (false_from_ne_true empty (λ e. none e q position)),
)

-- a bit set inside the bytes has a place exactly where it has a position
pub at_none : (way : Direction) (bytes bits : List ℕ) → ((p : ℕ) → IsPlace bits p → ⊥) → (p : ℕ) → IsAt way bytes bits p → ⊥
at_none way bytes bits none p (near, place) = none (place_of way (length bytes) p) place

pub at_some : (way : Direction) (bytes bits : List ℕ) → IsInside bytes bits → ((p : ℕ) × IsPlace bits p) → (p : ℕ) × IsAt way bytes bits p
at_some direction.End bytes bits inside (p, place) = (p, (inside p place, place))
at_some direction.Start bytes bits inside (p, place) =
    let near = inside p place in
    let back : length bytes - (length bytes - p) ≡ p = omega arith in
    (length bytes - p, (omega arith, rw back place))

pub no_items : {X : Type 0} (xs : List X) → length xs < 1 → xs ≡ []
no_items [] h = refl
no_items (x ∷ xs) h = absurd (omega arith)

-- the same of the elements that cells stand for
pub begins_first : (es fs : List Element) (bytes : List ℕ) (low high : ℕ) (starts : ℕ → Type 0) → es ≡ fs
    → ((p : ℕ) → starts p ↔ ((low ≤ p) × (p ≤ min high (length bytes))))
    → BeginsWithin es bytes low high ↔ ((p : ℕ) × starts p × ((q : ℕ) × Path fs bytes p q))
begins_first es fs bytes low high starts e says = rw (← e) (begins_from es bytes low high starts says)

pub ends_first : (es fs : List Element) (bytes : List ℕ) (low high : ℕ) (ends : ℕ → Type 0) → es ≡ fs
    → ((q : ℕ) → ends q ↔ ((low + q ≤ length bytes) × (length bytes ≤ high + q)))
    → EndsWithin es bytes low high ↔ ((q : ℕ) × ends q × ((p : ℕ) × (p ≤ length bytes) × Path fs bytes p q))
ends_first es fs bytes low high ends e says = rw (← e) (ends_from es bytes low high ends says)

-- a list with an element has a last one and those before it
pub rest_and_last : {X : Type 0} (xs : List X) (x : X) → 0 < length xs → x ≡ get_or xs (length xs - 1) x → xs ≡ take (length xs - 1) xs ++ x ∷ []
rest_and_last xs x some read =
    let all : length xs - 1 + 1 ≡ length xs = omega arith in
    sym (take_all (length xs) xs (omega arith)) ∙ ap (λ n. take n xs) (sym all) ∙ take_more xs (length xs - 1) x (omega arith) ∙ ap (λ y. take (length xs - 1) xs ++ y ∷ []) (sym read)

pub reached_inside : (e : Element) (bytes : List ℕ) (from to : ℕ → Type 0) → Reaches direction.Start e bytes from to → (q : ℕ) → to q → q ≤ length bytes
reached_inside e bytes from to step q position = let (p, before, leads) = (step q).0 position in omega (arith, leads.ordered, leads.inside)

-- what stands before a position of the first bytes is what stands before it in all
part_of_front : (bytes : List ℕ) (end k : ℕ) → k ≤ end → take k (drop (end - k) (take end bytes)) ≡ take k (drop (end - k) bytes)
part_of_front bytes end k inside =
    let sum : end - k + k ≡ end = omega arith in
    ap (λ n. take k (drop (end - k) (take n bytes))) (sym sum) ∙ ap (take k) (drop-take (end - k) k bytes) ∙ take-take k k (drop (end - k) bytes) (omega arith)

-- a match that ends with the first bytes is one that ends before that position
pub ends_at : (es : List Element) (bytes : List ℕ) (end : ℕ) → end ≤ length bytes → EndsWithin es (take end bytes) 0 0 ↔ MatchesTo es bytes end
ends_at es bytes end inside =
    let len : length (take end bytes) ≡ end = omega (arith, length-take end bytes) in (
      λ h.
          let k = h.count in
          let none : h.offset ≡ 0 = omega (arith, h.to_high) in
          let within : k ≤ end = omega (arith, h.inside) in
          let here : length (take end bytes) - (h.offset + k) ≡ end - k = omega arith in
          record { count = k; inside = within; matched = rw (here, part_of_front bytes end k within) at h.matched },
      λ h.
          let here : length (take end bytes) - (0 + h.count) ≡ end - h.count = omega arith in
          record { offset = 0; count = h.count; from_low = omega arith; to_high = omega arith; inside = omega (arith, h.inside); matched = rw (here, part_of_front bytes end h.count h.inside) h.matched },
    )
