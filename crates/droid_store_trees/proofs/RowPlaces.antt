-- Where a row goes in a list that is put together of two and a row between them.
use Rattle.std.proofs.Common.{◌≡◌, ℕ, suc, ◌+◌, ◌-◌, ◌<◌, Bool, true, false, inl, inr, List, [], ◌∷◌, ◌++◌, length, get_or, sym, ap, ◌∙◌, subst, arith, refl}
use Rattle.std.proofs.lemmas.Bool.{cases_lt}
use Rattle.std.proofs.lemmas.List.{length-append, get_or_append_left, get_or-append_right, get_or_at}
use Rattle.sqlite_value.specs.Order.{Row}
use Rattle.sqlite_trees.specs.Probe.{IsCutBy, IsPlaceOf}
use Rattle.sqlite_trees.proofs.MemoryLemmas.{passes_before, fails_after}

module _ (test : Row → Bool) (left : List Row) (row : Row) (right : List Row) where
  all : List Row
  all = left ++ row ∷ right

  abbrev here : ℕ → Row
  here k = get_or (left ++ row ∷ right) k []

  len : length (left ++ row ∷ right) ≡ length left + 1 + length right
  len = length-append left (row ∷ right) ∙ omega arith

  in_left : (k : ℕ) → k < length left → here k ≡ get_or left k []
  in_left k low = get_or_append_left left (row ∷ right) [] k low

  middle : here (length left) ≡ row
  middle = get_or_at left row right [] (length left) refl

  in_right : (k : ℕ) → here (length left + 1 + k) ≡ get_or right k []
  in_right k =
      let same : length left + 1 + k - length left ≡ suc k = omega arith in
      get_or-append_right left (row ∷ right) (length left) (length left + 1 + k) [] refl (omega arith) ∙ ap (λ n. get_or (row ∷ right) n []) same

  pub cut_left : IsCutBy test (left ++ row ∷ right) → IsCutBy test left
  cut_left cut i j p q h =
      subst (λ r. test r ≡ true) (in_left i (omega arith)) (cut i j p (omega (arith, len)) (subst (λ r. test r ≡ true) (sym (in_left j q)) h))

  pub cut_right : IsCutBy test (left ++ row ∷ right) → IsCutBy test right
  cut_right cut i j p q h =
      subst (λ r. test r ≡ true) (in_right i)
      (cut (length left + 1 + i) (length left + 1 + j) (omega arith) (omega (arith, len)) (subst (λ r. test r ≡ true) (sym (in_right j)) h))

  pub placed_left : IsCutBy test (left ++ row ∷ right) → test row ≡ false → (at : ℕ) → IsPlaceOf test left at → IsPlaceOf test (left ++ row ∷ right) at
  placed_left cut fails at place =
      let stops : test (here (length left)) ≡ false = ap test middle ∙ fails in
      record {
        within = omega (arith, len, place.within);
        before = λ k p. subst (λ r. test r ≡ true) (sym (in_left k (omega (arith, place.within)))) (place.before k p);
        after = λ k p q. elim (cases_lt k (length left)) [
          | inl low ↦ ap test (in_left k low) ∙ place.after k p low
          | inr high ↦ fails_after test (left ++ row ∷ right) (length left) cut stops k high q
        ];
      }

  pub placed_right : IsCutBy test (left ++ row ∷ right) → test row ≡ true → (at : ℕ) → IsPlaceOf test right at → IsPlaceOf test (left ++ row ∷ right) (length left + 1 + at)
  placed_right cut passes at place =
      let reached : test (here (length left)) ≡ true = ap test middle ∙ passes in
      let beyond = λ (k : ℕ) (high : length left < k). let e : length left + 1 + (k - (length left + 1)) ≡ k = omega arith in e in
      record {
        within = omega (arith, len, place.within);
        before = λ k p. elim (cases_lt (length left) k) [
          | inl high ↦ subst (λ n. test (here n) ≡ true) (beyond k high) (subst (λ r. test r ≡ true) (sym (in_right (k - (length left + 1)))) (place.before _ (omega arith)))
          | inr low ↦ passes_before test (left ++ row ∷ right) (length left) cut (omega (arith, len)) reached k low
        ];
        after = λ k p q.
            let high : length left < k = omega arith in
            subst (λ n. test (here n) ≡ false) (beyond k high) (subst (λ r. test r ≡ false) (sym (in_right (k - (length left + 1)))) (place.after _ (omega arith) (omega (arith, len))));
      }
