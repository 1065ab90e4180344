-- A list that is in order by a key, and has the elements of a list whose keys rise, is that list.
use Rattle.std.proofs.Common.{◌≡◌, inl, inr, ℕ, zero, suc, ◌+◌, ◌<◌, ◌≤◌, List, [], ◌∷◌, length, map, true, false, refl, sym, ap, subst, ◌∙◌, arith, if◌then◌else◌, nat_lt, sum_by}
use Rattle.std.proofs.lemmas.Bool.{cases_Bool}
use Rattle.std.proofs.lemmas.Bool.Decides.{nat_tests}
use Rattle.std.proofs.lemmas.List.{map-set, length-map}
use Rattle.std.proofs.lemmas.List.Elements.{All-from_recursion, recursion_from_All}
use Rattle.std.proofs.lemmas.List.Sums.{sum_by-cons}
use Rattle.std.proofs.lemmas.List.Sorted.{sum_by-IsPermutation, length_permutation, All-permutation, IsNonDecreasingBy-from_sort}
use Rattle.std.proofs.Math.ListN.{get_or-map}
use Rattle.std.specs.List.{AllByRecursion, swap, slice_set, slice_index_or}
use Rattle.std.specs.List.Sorted.{IsPermutation, IsSortedByKey, IsNonDecreasingBy, apply_swaps, SwapsInRange}
use Rattle.std.specs.Ordering.{nat_cmp}
use Rattle.sqlite.specs.Tree.{IsAscending}
use Rattle.sqlite_rules.specs.Lists.{Has}
use Rattle.droid_store.specs.KeyedRows.{AreRising}

-- ---- a permutation of images is the image of a permutation

swap_map : {X Y : Type 0} (f : X → Y) (xs : List X) (i j : ℕ) → swap (map f xs) i j ≡ map f (swap xs i j)
swap_map f [] i j = refl
swap_map f (d ∷ ys) i j =
    let l = d ∷ ys in
    ap (λ t. slice_set (slice_set (map f l) i t) j (slice_index_or (map f l) i (f d))) (get_or-map f l j d)
    ∙ ap (λ t. slice_set (slice_set (map f l) i (f (slice_index_or l j d))) j t) (get_or-map f l i d)
    ∙ ap (λ m. slice_set m j (f (slice_index_or l i d))) (sym (map-set f l i (slice_index_or l j d)))
    ∙ sym (map-set f (slice_set l i (slice_index_or l j d)) j (slice_index_or l i d))

moved_map : {X Y : Type 0} (f : X → Y) (xs : List X) (moves : List (ℕ × ℕ)) → apply_swaps (map f xs) moves ≡ map f (apply_swaps xs moves)
moved_map f xs [] = refl
moved_map f xs (p ∷ ps) = ap (λ l. swap l p.0 p.1) (moved_map f xs ps) ∙ swap_map f (apply_swaps xs ps) p.0 p.1

pub unmapped : {X Y : Type 0} (f : X → Y) (xs : List X) (ys : List Y) → IsPermutation (map f xs) ys → (zs : List X) × (ys ≡ map f zs) × IsPermutation xs zs
unmapped f xs ys same =
    (apply_swaps xs same.moves, same.is ∙ moved_map f xs same.moves, record { moves = same.moves; below = subst (λ n. SwapsInRange n same.moves) (length-map xs f) same.below; is = refl })

module _ {X : Type 0} (key : X → ℕ) where
  -- ---- the keys are the same: below each number stand as many

  abbrev one : ℕ → X → ℕ
  one t z = if nat_lt (key z) t then 1 else 0

  abbrev below : ℕ → List X → ℕ
  below t zs = sum_by (one t) zs

  parts : (t : ℕ) (z : X) (zs : List X) → below t (z ∷ zs) ≡ one t z + below t zs
  parts t z zs = sum_by-cons (one t) z zs

  is_low : (t : ℕ) (z : X) → key z < t → one t z ≡ 1
  is_low t z low = let is : nat_lt (key z) t ≡ true = grind (arith, nat_tests) in rw is refl

  is_high : (t : ℕ) (z : X) → t ≤ key z → one t z ≡ 0
  is_high t z high = let is : nat_lt (key z) t ≡ false = grind (arith, nat_tests) in rw is refl

  none_below : (t : ℕ) (zs : List X) → AllByRecursion (λ z. t ≤ key z) zs → below t zs ≡ 0
  none_below t [] high = refl
  none_below t (z ∷ zs) high = omega (arith, parts t z zs, is_high t z high.0, none_below t zs high.1)

  weaker : (t u : ℕ) (zs : List X) → t ≤ u → AllByRecursion (λ z. u ≤ key z) zs → AllByRecursion (λ z. t ≤ key z) zs
  weaker t u [] less all = tt
  weaker t u (z ∷ zs) less all = (omega (arith, all.0), weaker t u zs less all.1)

  at_least : (t : ℕ) (zs : List X) → AllByRecursion (λ z. t < key z) zs → AllByRecursion (λ z. suc t ≤ key z) zs
  at_least t [] all = tt
  at_least t (z ∷ zs) all = (omega (arith, all.0), at_least t zs all.1)

  abbrev IsRising : List X → Type 0
  IsRising = IsAscending (λ a b. key a ≤ key b)

  same_key : (x y : X) (xs ys : List X) → AllByRecursion (λ z. key x < key z) xs → AllByRecursion (λ z. key y ≤ key z) ys → ((t : ℕ) → below t (y ∷ ys) ≡ below t (x ∷ xs)) → key y ≡ key x
  same_key x y xs ys rise sorted same = elim (cases_Bool (nat_lt (key y) (key x))) [
    | inl is ↦
        let low : key y < key x = grind (arith, nat_tests) in
        absurd (omega (arith, parts (key x) y ys, parts (key x) x xs, same (key x), is_low (key x) y low, is_high (key x) x (omega arith), none_below (key x) xs (weaker (key x) (suc (key x)) xs (omega arith) (at_least (key x) xs rise))))
    | inr isnt ↦ elim (cases_Bool (nat_lt (key x) (key y))) [
      | inl more ↦
          let high : key x < key y = grind (arith, nat_tests) in
          absurd (omega (arith, parts (key y) y ys, parts (key y) x xs, same (key y), is_low (key y) x high, is_high (key y) y (omega arith), none_below (key y) ys sorted))
      | inr nor ↦ grind (arith, nat_tests)
    ]
  ]

  same_keys : (xs ys : List X) → AreRising key xs → IsRising ys → length ys ≡ length xs → ((t : ℕ) → below t ys ≡ below t xs) → map key ys ≡ map key xs
  same_keys [] [] rise sorted long same = refl
  same_keys [] (y ∷ ys) rise sorted long same = absurd (omega (arith, long))
  same_keys (x ∷ xs) [] rise sorted long same = absurd (omega (arith, long))
  same_keys (x ∷ xs) (y ∷ ys) rise sorted long same =
      let first = same_key x y xs ys rise.0 sorted.0 same in
      let heads : (t : ℕ) → one t y ≡ one t x = λ t. ap (λ (k : ℕ). if nat_lt k t then (suc 0) else 0) first in
      let rest = same_keys xs ys rise.1 sorted.1 (omega (arith, long)) (λ t. omega (arith, parts t y ys, parts t x xs, same t, heads t)) in
      ap (λ k. k ∷ map key ys) first ∙ ap (λ ks. key x ∷ ks) rest

  -- ---- and a key has one element

  abbrev IsReported : List X → X → Type 0
  IsReported all z = (x : X) → Has all x → key x ≡ key z → x ≡ z

  reported_more : (z : X) (zs ws : List X) → AllByRecursion (λ w. key z < key w) ws → AllByRecursion (IsReported zs) ws → AllByRecursion (IsReported (z ∷ zs)) ws
  reported_more z zs [] above reported = tt
  reported_more z zs (w ∷ ws) above reported = (λ x here same. elim here [ inl is ↦ absurd (omega (arith, above.0, same, ap key is)) | inr more ↦ reported.0 x more same ], reported_more z zs ws above.1 reported.1)

  no_higher : (z x : X) (zs : List X) → AllByRecursion (λ w. key z < key w) zs → Has zs x → key x ≡ key z → ⊥
  no_higher z x [] above here same = here
  no_higher z x (w ∷ ws) above (inl is) same = omega (arith, above.0, same, ap key is)
  no_higher z x (w ∷ ws) above (inr more) same = no_higher z x ws above.1 more same

  are_reported : (zs : List X) → AreRising key zs → AllByRecursion (IsReported zs) zs
  are_reported [] rise = tt
  are_reported (z ∷ zs) rise = (λ x here same. elim here [ inl is ↦ is | inr more ↦ absurd (no_higher z x zs rise.0 more same) ], reported_more z zs zs rise.0 (are_reported zs rise.1))

  has_more : (z : X) (zs xs : List X) → AllByRecursion (Has zs) xs → AllByRecursion (Has (z ∷ zs)) xs
  has_more z zs [] all = tt
  has_more z zs (x ∷ xs) all = (inr all.0, has_more z zs xs all.1)

  has_itself : (zs : List X) → AllByRecursion (Has zs) zs
  has_itself [] = tt
  has_itself (z ∷ zs) = (inl refl, has_more z zs zs (has_itself zs))

  matched : (all xs ys : List X) → AllByRecursion (Has all) xs → AllByRecursion (IsReported all) ys → map key ys ≡ map key xs → ys ≡ xs
  matched all [] [] here reported same = refl
  matched all [] (y ∷ ys) here reported same = absurd cc
  matched all (x ∷ xs) [] here reported same = absurd cc
  matched all (x ∷ xs) (y ∷ ys) here reported same =
      let first : key x ≡ key y = cc in
      let rest : map key ys ≡ map key xs = cc in
      ap (λ z. z ∷ ys) (sym (reported.0 x here.0 first)) ∙ ap (λ zs. x ∷ zs) (matched all xs ys here.1 reported.1 rest)

  in_order : (ys : List X) → IsNonDecreasingBy key ys → IsRising ys
  in_order [] up = tt
  in_order (y ∷ ys) up = (recursion_from_All (λ z. key y ≤ key z) ys (λ i d lt. up zero (suc i) d (omega arith) (omega arith)), in_order ys (λ i j d le lt. up (suc i) (suc j) d (omega arith) (omega arith)))

  pub sorted_once : (xs ys : List X) → AreRising key xs → IsSortedByKey key nat_cmp ys → IsPermutation xs ys → ys ≡ xs
  sorted_once xs ys rise sorted same =
      let keys = same_keys xs ys rise (in_order ys (IsNonDecreasingBy-from_sort key ys sorted)) (length_permutation xs ys same) (λ t. sum_by-IsPermutation (one t) xs ys same) in
      matched xs xs ys (has_itself xs) (recursion_from_All (IsReported xs) ys (All-permutation (IsReported xs) xs ys same (All-from_recursion (IsReported xs) xs (are_reported xs rise)))) keys
