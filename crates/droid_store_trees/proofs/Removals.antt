-- One row is taken out of rows in order, at the place that a search found.
use Rattle.std.proofs.Common.{◌≡◌, ℕ, zero, suc, ◌<◌, true, false, not, List, [], ◌∷◌, filter, length, get_or, refl, sym, ap, ◌∙◌, arith, Ordering, Less, Equal, Greater, is_lt, is_eq, true≢false, Result, Ok, Err}
use Rattle.std.specs.Prelude.{OnOk, OnErr}
use Rattle.std.specs.List.{AllByRecursion, remove}
use Rattle.std.specs.Cmp.{IsTotalOrder}
use Rattle.std.proofs.lemmas.Cmp.{alike_right}
use Rattle.sqlite_value.specs.declared.value.Value.{Value}
use Rattle.sqlite_value.specs.Order.{Row, value_cmp}
use Rattle.sqlite_value.specs.declared.keys.Order.{Order}
use Rattle.sqlite_value.specs.Keys.{entry_cmp}
use Rattle.sqlite_value.proofs.KeyLemmas.{entry_cmp_total}
use Rattle.sqlite_value.proofs.OrderLemmas.{value_cmp_total}
use Rattle.sqlite_trees.specs.Tree.{rowid, IsTable, IsIndex}
use Rattle.sqlite_trees.specs.Probe.{IsPlaceOf}
use Rattle.sqlite_trees.proofs.ListLemmas.{all_weaker, filter_all}

-- what a call leaves, whether it was done or refused
pub held : {U E X : Type 0} (r : Result U E) (P : X → Type 0) (new done old : X) → OnOk r (new ≡ done) → OnErr r (new ≡ old) → P done → P old → P new
held (Ok x) P new done old e f p q = rw e p
held (Err x) P new done old e f p q = rw f q

module _ (rank : Row → Ordering) where
  -- behind a row that is not below, none is equal
  abbrev pub AreApart : List Row → Type 0
  AreApart [] = Unit {0}
  AreApart (x ∷ rows) = (is_lt (rank x) ≡ false → AllByRecursion (λ y. is_eq (rank y) ≡ false) rows) × AreApart rows

  abbrev pub without : List Row → List Row
  without = filter (λ y. not (is_eq (rank y)))

  tail : (x : Row) (rows : List Row) (at : ℕ) → IsPlaceOf (λ y. is_lt (rank y)) (x ∷ rows) (suc at) → IsPlaceOf (λ y. is_lt (rank y)) rows at
  tail x rows at place = record {
    within = omega (arith, place.within);
    before = λ k h. place.before (suc k) (omega arith);
    after = λ k h q. place.after (suc k) (omega arith) (omega arith);
  }

  below : (o : Ordering) → is_lt o ≡ true → is_eq o ≡ false
  below Less h = refl
  below Equal h = absurd (true≢false (sym h))
  below Greater h = refl

  rest_stays : (rows : List Row) → AllByRecursion (λ y. is_eq (rank y) ≡ false) rows → without rows ≡ rows
  rest_stays rows h = filter_all _ rows (all_weaker _ (λ y. not (is_eq (rank y)) ≡ true) (λ y e. ap not e) rows h)

  pub removed : (rows : List Row) (at : ℕ) → AreApart rows → IsPlaceOf (λ y. is_lt (rank y)) rows at → at < length rows → is_eq (rank (get_or rows at [])) ≡ true → remove rows at ≡ without rows
  removed [] at apart place within same = absurd (omega arith)
  removed (x ∷ rows) zero apart place within same = rw same (sym (rest_stays rows (apart.0 (place.after 0 (omega arith) (omega arith)))))
  removed (x ∷ rows) (suc at) apart place within same =
      rw (below _ (place.before 0 (omega arith))) (ap (λ l. x ∷ l) (removed rows at apart.1 (tail x rows at place) (omega arith) same))

  pub kept : (rows : List Row) (at : ℕ) → AreApart rows → IsPlaceOf (λ y. is_lt (rank y)) rows at → (at < length rows → is_eq (rank (get_or rows at [])) ≡ false) → rows ≡ without rows
  kept [] at apart place other = refl
  kept (x ∷ rows) zero apart place other = rw (other (omega arith)) (ap (λ l. x ∷ l) (sym (rest_stays rows (apart.0 (place.after 0 (omega arith) (omega arith))))))
  kept (x ∷ rows) (suc at) apart place other =
      rw (below _ (place.before 0 (omega arith))) (ap (λ l. x ∷ l) (kept rows at apart.1 (tail x rows at place) (λ h. other (omega arith))))

-- what is above x, and x is not below k, is not k
later : {K : Type 0} {R : K → K → Ordering} → IsTotalOrder R → (x y k : K) → R x y ≡ Less → is_lt (R x k) ≡ false → is_eq (R y k) ≡ false
later {K} {R} total x y k up h = go (R y k) refl
  where
    go : (o : Ordering) → R y k ≡ o → is_eq o ≡ false
    go Less e = refl
    go Greater e = refl
    go Equal e = absurd (true≢false (sym (ap is_lt (sym (alike_right total y k x e) ∙ up)) ∙ h))

pub table_apart : (id : Value) (rows : List Row) → IsTable rows → AreApart (λ r. value_cmp (rowid r) id) rows
table_apart id [] up = tt
table_apart id (x ∷ rows) up = (λ h. all_weaker _ (λ y. is_eq (value_cmp (rowid y) id) ≡ false) (λ y less. later value_cmp_total (rowid x) (rowid y) id less h) rows up.0, table_apart id rows up.1)

pub index_apart : (o : Order) (entry : Row) (rows : List Row) → IsIndex o rows → AreApart (λ e. entry_cmp o e entry) rows
index_apart o entry [] up = tt
index_apart o entry (x ∷ rows) up = (λ h. all_weaker _ (λ y. is_eq (entry_cmp o y entry) ≡ false) (λ y less. later (entry_cmp_total o) x y entry less h) rows up.0, index_apart o entry rows up.1)
