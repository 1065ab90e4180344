-- One step of the merge, and its end.
use Rattle.std.proofs.Common.{◌≡◌, ℕ, zero, suc, ◌+◌, ◌≤◌, List, [], ◌∷◌, drop, length, Option, Some, None, refl, sym, ap, subst, arith}
use Rattle.std.specs.Cmp.Lexicographic.{slice_cmp}
use Rattle.std.specs.List.{slice_get}
use Rattle.std.specs.Ordering.{nat_cmp}
use Rattle.std.specs.declared.cmp.Ordering.{Ordering}
use Rattle.std.specs.declared.cmp.Ordering.TheVariants.{Less, Equal, Greater}
use Rattle.std.proofs.lemmas.Option.{slice_get_within}
use Rattle.droid_fixity.specs.Pairing.{Merges, both, ends, found, found_after, last_found, last_listed, listed, listed_after, pair_by, pair_of}
use Rattle.droid_frame.specs.declared.item.Item.{Item}
use Rattle.droid_fixity.specs.declared.pair.Pair.{Pair}
use Rattle.droid_fixity.specs.declared.pair.Pair.TheVariants.{Both, Found, Listed}

-- what is left from a place on
left_there : {X : Type 0} (all : List X) (place : ℕ) (x : X) → slice_get all place ≡ Some x → drop place all ≡ x ∷ drop (place + 1) all
left_there [] place x there = cc
left_there (first ∷ all) zero x there = let same : first ≡ x = cc in ap (λ (y : _). y ∷ all) same
left_there (first ∷ all) (suc place) x there = let e : suc place + 1 ≡ suc (place + 1) = omega arith in rw e (left_there all place x there)

left_none : {X : Type 0} (all : List X) (place : ℕ) → slice_get all place ≡ None → drop place all ≡ []
left_none [] zero there = refl
left_none [] (suc place) there = refl
left_none (first ∷ all) zero there = cc
left_none (first ∷ all) (suc place) there = left_none all place there

-- after a pair the places are within the lists, and what completes the rest completes all
abbrev pub Takes : List Item → List Item → ℕ → ℕ → Pair → Type 0
Takes all others l f pair = (listed_after pair l ≤ length all) × (found_after pair f ≤ length others)
    × ((rest : List Pair) → Merges (listed_after pair l) (found_after pair f) (drop (listed_after pair l) all) (drop (found_after pair f) others) rest → Merges l f (drop l all) (drop f others) (pair ∷ rest))

both_taken : (all others : List Item) (l f : ℕ) (a b : Item) → slice_get all l ≡ Some a → slice_get others f ≡ Some b → (o : Ordering) → slice_cmp nat_cmp a.path b.path ≡ o
    → l ≤ length all → f ≤ length others → Takes all others l f (pair_by o l f)
both_taken all others l f a b here there Less is first second =
    let lies = left_there all l a here in
    let other = left_there others f b there in
    let within = slice_get_within all l a here in (
      omega (arith, within),
      second,
      λ rest merges.
          subst (λ (xs : List Item). Merges l f xs (drop f others) (Listed l ∷ rest)) (sym lies)
          (subst (λ (ys : List Item). Merges l f (a ∷ drop (l + 1) all) ys (Listed l ∷ rest)) (sym other)
          (listed is (subst (λ (ys : List Item). Merges (l + 1) f (drop (l + 1) all) ys rest) other merges))),
    )
both_taken all others l f a b here there Equal is first second =
    let lies = left_there all l a here in
    let other = left_there others f b there in
    let within = slice_get_within all l a here in
    let inside = slice_get_within others f b there in (
      omega (arith, within),
      omega (arith, inside),
      λ rest merges.
          subst (λ (xs : List Item). Merges l f xs (drop f others) (Both l f ∷ rest)) (sym lies)
          (subst (λ (ys : List Item). Merges l f (a ∷ drop (l + 1) all) ys (Both l f ∷ rest)) (sym other)
          (both is merges)),
    )
both_taken all others l f a b here there Greater is first second =
    let lies = left_there all l a here in
    let other = left_there others f b there in
    let inside = slice_get_within others f b there in (
      first,
      omega (arith, inside),
      λ rest merges.
          subst (λ (ys : List Item). Merges l f (drop l all) ys (Found f ∷ rest)) (sym other)
          (subst (λ (xs : List Item). Merges l f xs (b ∷ drop (f + 1) others) (Found f ∷ rest)) (sym lies)
          (found is (subst (λ (xs : List Item). Merges l (f + 1) xs (drop (f + 1) others) rest) lies merges))),
    )

one_taken : (all others : List Item) (l f : ℕ) (pair : Pair) (o p : Option Item) → slice_get all l ≡ o → slice_get others f ≡ p → pair_of o p l f ≡ Some pair
    → l ≤ length all → f ≤ length others → Takes all others l f pair
one_taken all others l f pair None None here there is first second = cc
one_taken all others l f pair (Some a) None here there is first second =
    let it : Listed l ≡ pair = cc in
    let lies = left_there all l a here in
    let over = left_none others f there in
    let within = slice_get_within all l a here in
    subst (Takes all others l f) it (
      omega (arith, within),
      second,
      λ rest merges.
          subst (λ (xs : List Item). Merges l f xs (drop f others) (Listed l ∷ rest)) (sym lies)
          (subst (λ (ys : List Item). Merges l f (a ∷ drop (l + 1) all) ys (Listed l ∷ rest)) (sym over)
          (last_listed (subst (λ (ys : List Item). Merges (l + 1) f (drop (l + 1) all) ys rest) over merges))),
    )
one_taken all others l f pair None (Some b) here there is first second =
    let it : Found f ≡ pair = cc in
    let other = left_there others f b there in
    let over = left_none all l here in
    let inside = slice_get_within others f b there in
    subst (Takes all others l f) it (
      first,
      omega (arith, inside),
      λ rest merges.
          subst (λ (ys : List Item). Merges l f (drop l all) ys (Found f ∷ rest)) (sym other)
          (subst (λ (xs : List Item). Merges l f xs (b ∷ drop (f + 1) others) (Found f ∷ rest)) (sym over)
          (last_found (subst (λ (xs : List Item). Merges l (f + 1) xs (drop (f + 1) others) rest) over merges))),
    )
one_taken all others l f pair (Some a) (Some b) here there is first second =
    let it : pair_by (slice_cmp nat_cmp a.path b.path) l f ≡ pair = cc in
    subst (Takes all others l f) it (both_taken all others l f a b here there (slice_cmp nat_cmp a.path b.path) refl first second)

pub pair_taken : (all others : List Item) (l f : ℕ) (pair : Pair) → pair_of (slice_get all l) (slice_get others f) l f ≡ Some pair → l ≤ length all → f ≤ length others → Takes all others l f pair
pair_taken all others l f pair is first second = one_taken all others l f pair (slice_get all l) (slice_get others f) refl refl is first second

-- there is no pair left
ended : (all others : List Item) (l f : ℕ) (o p : Option Item) → slice_get all l ≡ o → slice_get others f ≡ p → pair_of o p l f ≡ None → Merges l f (drop l all) (drop f others) []
ended all others l f None None here there is =
    subst (λ (xs : List Item). Merges l f xs (drop f others) []) (sym (left_none all l here))
    (subst (λ (ys : List Item). Merges l f [] ys []) (sym (left_none others f there)) ends)
ended all others l f (Some a) None here there is = cc
ended all others l f None (Some b) here there is = cc
ended all others l f (Some a) (Some b) here there is = cc

pub merge_ended : (all others : List Item) (l f : ℕ) → pair_of (slice_get all l) (slice_get others f) l f ≡ None → Merges l f (drop l all) (drop f others) []
merge_ended all others l f is = ended all others l f (slice_get all l) (slice_get others f) refl refl is
