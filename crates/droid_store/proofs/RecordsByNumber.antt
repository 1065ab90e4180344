-- The records of a profile come by number.
use Rattle.std.proofs.Common.{◌≡◌, inl, inr, ℕ, ◌<◌, ◌==◌, List, [], ◌∷◌, map, filter, not, subst}
use Rattle.std.proofs.lemmas.Bool.{cases_Bool, and_parts, eqb-true}
use Rattle.std.specs.List.{AllByRecursion}
use Rattle.droid_store.specs.Kept.{AreInOrder}
use Rattle.droid_store.specs.RecordOrder.{AreByNumber}
use Rattle.droid_store.specs.Rows.{Node, is_listed, is_unfinished, record_of}

records_above : (profile low : ℕ) (ns : List Node) → AllByRecursion (λ m. m.profile ≡ profile → low < m.id) ns → AllByRecursion (λ r. low < r.id) (map record_of (filter (is_listed profile) ns))
records_above profile low [] above = tt
records_above profile low (m ∷ ms) above = elim (cases_Bool (is_listed profile m)) [
  | inl is ↦ rw is (above.0 (eqb-true m.profile profile (and_parts (m.profile == profile) (not (is_unfinished m.state)) is).0), records_above profile low ms above.1)
  | inr isnt ↦ rw isnt (records_above profile low ms above.1)
]

pub records_by_number : (profile : ℕ) (ns : List Node) → AreInOrder ns → AreByNumber (map record_of (filter (is_listed profile) ns))
records_by_number profile [] rise = tt
records_by_number profile (n ∷ ns) rise = elim (cases_Bool (is_listed profile n)) [
  | inl is ↦
      let at = eqb-true n.profile profile (and_parts (n.profile == profile) (not (is_unfinished n.state)) is).0 in
      rw is (records_above profile n.id ns (subst (λ p. AllByRecursion (λ m. m.profile ≡ p → n.id < m.id) ns) at rise.0), records_by_number profile ns rise.1)
  | inr isnt ↦ rw isnt (records_by_number profile ns rise.1)
]
