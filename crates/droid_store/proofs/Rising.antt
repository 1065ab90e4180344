-- Rowids that rise still rise after each statement; and rows that are numbered in turn.
use Rattle.std.proofs.Common.{◌≡◌, inl, inr, ℕ, suc, ◌+◌, ◌<◌, ◌≤◌, List, [], ◌∷◌, ◌++◌, length, map, filter, fold, Bool, refl, sym, ap, subst, ◌∙◌, arith}
use Rattle.std.proofs.lemmas.Bool.{cases_Bool}
use Rattle.std.specs.List.{AllByRecursion}
use Rattle.droid_store.specs.KeyedRows.{numbered_from, AreRising, AreBelow, next_key, changed_where}

module _ {X : Type 0} (key : X → ℕ) where
  above_last : (low : ℕ) (xs : List X) (x : X) → AllByRecursion (λ y. low < key y) xs → low < key x → AllByRecursion (λ y. low < key y) (xs ++ x ∷ [])
  above_last low [] x above less = (less, tt)
  above_last low (y ∷ ys) x above less = (above.0, above_last low ys x above.1 less)

  pub rising_last : (xs : List X) (x : X) → AreRising key xs → AreBelow key (key x) xs → AreRising key (xs ++ x ∷ [])
  rising_last [] x rise below = (tt, tt)
  rising_last (y ∷ ys) x rise below = (above_last (key y) ys x rise.0 below.0, rising_last ys x rise.1 below.1)

  above_filter : (low : ℕ) (p : X → Bool) (xs : List X) → AllByRecursion (λ y. low < key y) xs → AllByRecursion (λ y. low < key y) (filter p xs)
  above_filter low p [] above = tt
  above_filter low p (x ∷ xs) above = elim (cases_Bool (p x)) [
    | inl is ↦ rw is (above.0, above_filter low p xs above.1)
    | inr isnt ↦ rw isnt (above_filter low p xs above.1)
  ]

  pub rising_filter : (p : X → Bool) (xs : List X) → AreRising key xs → AreRising key (filter p xs)
  rising_filter p [] rise = tt
  rising_filter p (x ∷ xs) rise = elim (cases_Bool (p x)) [
    | inl is ↦ rw is (above_filter (key x) p xs rise.0, rising_filter p xs rise.1)
    | inr isnt ↦ rw isnt (rising_filter p xs rise.1)
  ]

  module _ (f : X → X) (keeps : (x : X) → key (f x) ≡ key x) where
    above_map : (low : ℕ) (xs : List X) → AllByRecursion (λ y. low < key y) xs → AllByRecursion (λ y. low < key y) (map f xs)
    above_map low [] above = tt
    above_map low (x ∷ xs) above = (subst (λ n. low < n) (sym (keeps x)) above.0, above_map low xs above.1)

    pub rising_map : (xs : List X) → AreRising key xs → AreRising key (map f xs)
    rising_map [] rise = tt
    rising_map (x ∷ xs) rise = (subst (λ n. AllByRecursion (λ y. n < key y) (map f xs)) (sym (keeps x)) (above_map (key x) xs rise.0), rising_map xs rise.1)

  -- a row that is changed where a test passes keeps its rowid, if the change keeps it
  pub changed_keeps : (test : X → Bool) (change : X → X) → ((x : X) → key (change x) ≡ key x) → (x : X) → key (changed_where test change x) ≡ key x
  changed_keeps test change keeps x = elim (cases_Bool (test x)) [ inl is ↦ rw is (keeps x) | inr isnt ↦ rw isnt refl ]

-- ---- rows that are numbered in turn

module _ {R : Type 0} where
  abbrev number : ℕ × R → ℕ
  number p = p.0

  numbered_above : (low n : ℕ) (rs : List R) → low < n → AllByRecursion (λ p. low < number p) (numbered_from n rs)
  numbered_above low n [] less = tt
  numbered_above low n (r ∷ rs) less = (less, numbered_above low (suc n) rs (omega arith))

  pub rising_numbered : (n : ℕ) (rs : List R) → AreRising number (numbered_from n rs)
  rising_numbered n [] = tt
  rising_numbered n (r ∷ rs) = (numbered_above n (suc n) rs (omega arith), rising_numbered (suc n) rs)

  pub numbered_append : (n : ℕ) (rs : List R) (r : R) → numbered_from n (rs ++ r ∷ []) ≡ numbered_from n rs ++ (n + length rs, r) ∷ []
  numbered_append n [] r = ap (λ m. (m, r) ∷ []) (omega arith)
  numbered_append n (s ∷ rs) r = ap (λ ps. (n, s) ∷ ps) (numbered_append (suc n) rs r ∙ ap (λ m. numbered_from (suc n) rs ++ (m, r) ∷ []) (omega arith))

  next_numbered_from : (n from : ℕ) (rs : List R) → from ≡ n → fold (λ _ (p : ℕ × R). p.0 + 1) from (numbered_from n rs) ≡ n + length rs
  next_numbered_from n from [] is = is ∙ omega arith
  next_numbered_from n from (r ∷ rs) is = next_numbered_from (suc n) (n + 1) rs (omega arith) ∙ omega arith

  -- the next rowid after rows that are numbered from 1
  pub next_numbered : (rs : List R) → next_key number (numbered_from 1 rs) ≡ 1 + length rs
  next_numbered rs = next_numbered_from 1 1 rs refl

  pub numbered_below : (n top : ℕ) (rs : List R) → n + length rs ≤ top → AreBelow number top (numbered_from n rs)
  numbered_below n top [] room = tt
  numbered_below n top (r ∷ rs) room = (omega arith, numbered_below (suc n) top rs (omega arith))

  pub numbered_values : (n : ℕ) (rs : List R) → map (λ (p : ℕ × R). p.1) (numbered_from n rs) ≡ rs
  numbered_values n [] = refl
  numbered_values n (r ∷ rs) = ap (λ ps. r ∷ ps) (numbered_values (suc n) rs)
