-- Where a row with a rowid stands among rows whose rowids rise.
use Rattle.std.proofs.Common.{◌≡◌, inl, inr, ℕ, ◌+◌, ◌<◌, ◌==◌, pos, ◌+ℤ◌, List, [], ◌∷◌, ◌++◌, map, filter, fold, Bool, true, false, not, refl, sym, ap, subst, ◌∙◌, arith}
use Rattle.std.proofs.lemmas.Int.{ints}
use Rattle.std.proofs.lemmas.Bool.{cases_Bool}
use Rattle.std.proofs.lemmas.Bool.Decides.{nat_tests}
use Rattle.std.specs.List.{AllByRecursion}
use Rattle.std.specs.declared.cmp.Ordering.TheVariants.{Less, Greater}
use Rattle.std.specs.Ordering.{is_eq}
use Rattle.sqlite.specs.declared.types.Value.TheVariants.{Int}
use Rattle.sqlite.specs.Order.{Row, value_cmp}
use Rattle.sqlite.specs.Tree.{put_row, has_rowid, without_rowid, rowid}
use Rattle.sqlite_rules.specs.Edit.{next_rowid, id_in}
use Rattle.sqlite_value.proofs.OrderLemmas.{value_cmp-Int}
use Rattle.droid_store.specs.KeyedRows.{AreRising, AreBelow, next_key, changed_where}
use Rattle.droid_store.proofs.AtMostOne.{none_goes, none_changes}

pub lower : (m n : ℕ) → m < n → value_cmp (Int (pos m)) (Int (pos n)) ≡ Less
lower m n h = value_cmp-Int (pos m) (pos n) ∙ grind (arith, ints, nat_tests)

pub higher : (m n : ℕ) → n < m → value_cmp (Int (pos m)) (Int (pos n)) ≡ Greater
higher m n h = value_cmp-Int (pos m) (pos n) ∙ grind (arith, ints, nat_tests)

pub has_id : (m n : ℕ) (tail : Row) → has_rowid (pos n) (Int (pos m) ∷ tail) ≡ (m == n)
has_id m n tail = ap is_eq (value_cmp-Int (pos m) (pos n)) ∙ grind (arith, ints, nat_tests)

above_differs : (m n : ℕ) → n < m → (m == n) ≡ false
above_differs m n h = grind (arith, nat_tests)

below_differs : (m n : ℕ) → m < n → (m == n) ≡ false
below_differs m n h = grind (arith, nat_tests)

same_is : (n : ℕ) → (n == n) ≡ true
same_is n = grind (arith, nat_tests)

module _ {X : Type 0} (key : X → ℕ) (tail : X → Row) where
  abbrev enc : X → Row
  enc x = Int (pos (key x)) ∷ tail x

  -- ---- a row above all others is put last

  pub put_last : (x : X) (xs : List X) → AreBelow key (key x) xs → put_row (enc x) (map enc xs) ≡ map enc (xs ++ x ∷ [])
  put_last x [] below = refl
  put_last x (y ∷ ys) below = rw (lower (key y) (key x) below.0) (ap (λ rs. enc y ∷ rs) (put_last x ys below.1))

  put_first : (x : X) (xs : List X) → AllByRecursion (λ y. key x < key y) xs → put_row (enc x) (map enc xs) ≡ map enc (x ∷ xs)
  put_first x [] above = refl
  put_first x (y ∷ ys) above = rw (higher (key y) (key x) above.0) refl

  next_from : (from : ℕ) (xs : List X) → fold (λ _ (r : Row). id_in (rowid r) +ℤ pos 1) (pos from) (map enc xs) ≡ pos (fold (λ _ x. key x + 1) from xs)
  next_from from [] = refl
  next_from from (x ∷ xs) = next_from (key x + 1) xs

  -- the rowid that SQL chooses
  pub next_is : (xs : List X) → next_rowid (map enc xs) ≡ pos (next_key key xs)
  next_is xs = next_from 1 xs

  later_above : (low : ℕ) (xs : List X) → AllByRecursion (λ y. low < key y) xs → (from : ℕ) → low < from → low < fold (λ _ x. key x + 1) from xs
  later_above low [] above from less = less
  later_above low (x ∷ xs) above from less = later_above low xs above.1 (key x + 1) (omega (arith, above.0))

  below_next_from : (xs : List X) (from : ℕ) → AreRising key xs → AreBelow key (fold (λ _ x. key x + 1) from xs) xs
  below_next_from [] from rise = tt
  below_next_from (x ∷ xs) from rise = (later_above (key x) xs rise.0 (key x + 1) (omega arith), below_next_from xs (key x + 1) rise.1)

  -- and it is above those of all rows
  pub below_next : (xs : List X) → AreRising key xs → AreBelow key (next_key key xs) xs
  below_next xs rise = below_next_from xs 1 rise

  -- ---- the row that a test finds goes, or is written again in its place

  module _ (test : X → Bool) where
    -- no row above the rowid has it
    above_has_none : (n : ℕ) (xs : List X) → AllByRecursion (λ y. n < key y) xs → without_rowid (pos n) (map enc xs) ≡ map enc xs
    above_has_none n [] above = refl
    above_has_none n (x ∷ xs) above = rw (has_id (key x) n (tail x), above_differs (key x) n above.0) (ap (λ rs. enc x ∷ rs) (above_has_none n xs above.1))

    low_key : (low : ℕ) (x : X) (xs : List X) → AllByRecursion (λ y. low < key y) xs → filter test xs ≡ x ∷ [] → low < key x
    low_key low x [] above one = absurd cc
    low_key low x (y ∷ ys) above one = elim (cases_Bool (test y)) [
      | inl is ↦ let same : y ≡ x = (let it = rw is at one in cc) in subst (λ z. low < key z) same above.0
      | inr isnt ↦ low_key low x ys above.1 (rw isnt at one)
    ]

    pub one_goes : (x : X) (xs : List X) → AreRising key xs → filter test xs ≡ x ∷ [] → without_rowid (pos (key x)) (map enc xs) ≡ map enc (filter (λ y. not (test y)) xs)
    one_goes x [] rise one = absurd cc
    one_goes x (y ∷ ys) rise one = elim (cases_Bool (test y)) [
      | inl is ↦
          let both = rw is at one in
          let same : y ≡ x = cc in
          let none : filter test ys ≡ [] = cc in
          subst (λ z. without_rowid (pos (key z)) (map enc (y ∷ ys)) ≡ map enc (filter (λ w. not (test w)) (y ∷ ys))) same
          (rw (has_id (key y) (key y) (tail y), same_is (key y), is, none_goes test ys none) (above_has_none (key y) ys rise.0))
      | inr isnt ↦
          let rest = rw isnt at one in
          rw (has_id (key y) (key x) (tail y), below_differs (key y) (key x) (low_key (key y) x ys rise.0 rest), isnt) (ap (λ rs. enc y ∷ rs) (one_goes x ys rise.1 rest))
    ]

    module _ (change : X → X) (keeps : (x : X) → key (change x) ≡ key x) where
      pub one_changes : (x : X) (xs : List X) → AreRising key xs → filter test xs ≡ x ∷ []
          → put_row (enc (change x)) (without_rowid (pos (key x)) (map enc xs)) ≡ map enc (map (changed_where test change) xs)
      one_changes x [] rise one = absurd cc
      one_changes x (y ∷ ys) rise one = elim (cases_Bool (test y)) [
        | inl is ↦
            let both = rw is at one in
            let same : y ≡ x = cc in
            let none : filter test ys ≡ [] = cc in
            subst (λ z. put_row (enc (change z)) (without_rowid (pos (key z)) (map enc (y ∷ ys))) ≡ map enc (map (changed_where test change) (y ∷ ys))) same
            (rw (has_id (key y) (key y) (tail y), same_is (key y), is, none_changes test change ys none, above_has_none (key y) ys rise.0) (put_first (change y) ys (subst (λ n. AllByRecursion (λ z. n < key z) ys) (sym (keeps y)) rise.0)))
        | inr isnt ↦
            let rest = rw isnt at one in
            let less = low_key (key y) x ys rise.0 rest in
            rw (has_id (key y) (key x) (tail y), below_differs (key y) (key x) less, isnt, lower (key y) (key (change x)) (subst (λ n. key y < n) (sym (keeps x)) less)) (ap (λ rs. enc y ∷ rs) (one_changes x ys rise.1 rest))
      ]
