-- What follows from it that the nodes of a profile have rising numbers.
use Rattle.std.proofs.Common.{◌≡◌, inl, inr, ℕ, ◌<◌, ◌≤◌, ◌==◌, List, [], ◌∷◌, length, filter, not, refl, sym, subst, ◌∙◌, arith}
use Rattle.std.proofs.lemmas.Bool.{cases_Bool, and_parts, eqb-true}
use Rattle.std.specs.List.{AllByRecursion}
use Rattle.droid_store.specs.KeyedRows.{AreRising}
use Rattle.droid_store.specs.Kept.{AreInOrder}
use Rattle.droid_store.specs.Rows.{Node, is_node, is_listed, is_unfinished}

none_later : (profile id : ℕ) (n : Node) (ns : List Node) → n.profile ≡ profile → n.id ≡ id → AllByRecursion (λ m. m.profile ≡ n.profile → n.id < m.id) ns → filter (is_node profile id) ns ≡ []
none_later profile id n [] at is above = refl
none_later profile id n (m ∷ ms) at is above = elim (cases_Bool (is_node profile id m)) [
  | inl same ↦
      let both = and_parts (m.profile == profile) (m.id == id) same in
      let less = above.0 (eqb-true m.profile profile both.0 ∙ sym at) in
      absurd (let here = eqb-true m.id id both.1 in omega arith)
  | inr other ↦ rw other (none_later profile id n ms at is above.1)
]

-- at most one node of a profile has a number
pub few_numbered : (profile id : ℕ) (ns : List Node) → AreInOrder ns → length (filter (is_node profile id) ns) ≤ 1
few_numbered profile id [] rise = omega arith
few_numbered profile id (n ∷ ns) rise = elim (cases_Bool (is_node profile id n)) [
  | inl is ↦
      let both = and_parts (n.profile == profile) (n.id == id) is in
      rw (is, none_later profile id n ns (eqb-true n.profile profile both.0) (eqb-true n.id id both.1) rise.0) (omega arith)
  | inr isnt ↦ rw isnt (few_numbered profile id ns rise.1)
]

above_listed : (profile low : ℕ) (ns : List Node) → AllByRecursion (λ m. m.profile ≡ profile → low < m.id) ns → AllByRecursion (λ m. low < m.id) (filter (is_listed profile) ns)
above_listed profile low [] above = tt
above_listed profile low (m ∷ ms) above = elim (cases_Bool (is_listed profile m)) [
  | inl is ↦ rw is (above.0 (eqb-true m.profile profile (and_parts (m.profile == profile) (not (is_unfinished m.state)) is).0), above_listed profile low ms above.1)
  | inr isnt ↦ rw isnt (above_listed profile low ms above.1)
]

-- and those that are listed stand in the order of their numbers
pub rising_listed : (profile : ℕ) (ns : List Node) → AreInOrder ns → AreRising (λ n. n.id) (filter (is_listed profile) ns)
rising_listed profile [] rise = tt
rising_listed profile (n ∷ ns) rise = elim (cases_Bool (is_listed profile n)) [
  | inl is ↦
      let at = eqb-true n.profile profile (and_parts (n.profile == profile) (not (is_unfinished n.state)) is).0 in
      rw is (above_listed profile n.id ns (subst (λ p. AllByRecursion (λ m. m.profile ≡ p → n.id < m.id) ns) at rise.0), rising_listed profile ns rise.1)
  | inr isnt ↦ rw isnt (rising_listed profile ns rise.1)
]
