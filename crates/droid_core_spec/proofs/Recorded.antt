-- The records of a profile are those of its nodes, and of nothing else.
use Rattle.std.proofs.Common.{◌≡◌, ℕ, zero, suc, ◌+◌, List, [], ◌∷◌, slice_get, Option, Some, None, inl, inr, refl, sym, ap, subst, arith}
use Rattle.std.specs.List.{Contains}
use Rattle.std.proofs.lemmas.List.Elements.{Contains-append_left, Contains-append_right, Contains-append_cases, Contains-push, Contains-push_cases}
use Rattle.droid_frame.specs.declared.record.Record.{Record}
use Rattle.droid_core_spec.specs.Records.{record_of, option_list, records_from, records, IsRecordIn}
use Rattle.droid_core_spec.specs.Setting.{Setting}
use Rattle.droid_core_spec.specs.World.{Node, Profile, numbered}

nothing_there : (shown : Record) → Contains [] shown → ⊥
nothing_there shown there = let below = there.1 in omega (arith, below)

listed : (o : Option Record) (shown : Record) → Contains (option_list o) shown → o ≡ Some shown
listed None shown there = absurd (nothing_there shown there)
listed (Some its) shown there = elim (Contains-push_cases [] its shown there) [
  | inl before ↦ absurd (nothing_there shown before)
  | inr same ↦ ap Some same
]

is_listed : (o : Option Record) (shown : Record) → o ≡ Some shown → Contains (option_list o) shown
is_listed o shown is = subst (λ (one : Option Record). Contains (option_list one) shown) (sym is) (Contains-push [] shown)

module _ (setting : Setting) (profile : Profile) where
  -- the record is that of one of these nodes, whose first has this number
  record IsAmong (first : ℕ) (nodes : List Node) (shown : Record) : Type 0 where
    pub place : ℕ
    pub node : Node
    pub at : slice_get nodes place ≡ Some node
    pub its : record_of setting profile (first + place) node ≡ Some shown

  of_number : (one other : ℕ) (node : Node) (shown : Record) → one ≡ other → record_of setting profile one node ≡ Some shown → record_of setting profile other node ≡ Some shown
  of_number one other node shown same is = subst (λ n. record_of setting profile n node ≡ Some shown) same is

  among : (first : ℕ) (nodes : List Node) (shown : Record) → Contains (records_from setting profile first nodes) shown → IsAmong first nodes shown
  among first [] shown there = absurd (nothing_there shown there)
  among first (node ∷ nodes) shown there =
      elim (Contains-append_cases (option_list (record_of setting profile first node)) (records_from setting profile (first + 1) nodes) shown there) [
        | inl here ↦ record { place = zero; node = node; at = refl; its = of_number first (first + 0) node shown (omega arith) (listed (record_of setting profile first node) shown here) }
        | inr later ↦ let rest = among (first + 1) nodes shown later in
            record { place = suc rest.place; node = rest.node; at = rest.at; its = of_number (first + 1 + rest.place) (first + suc rest.place) rest.node shown (omega arith) rest.its }
      ]

  is_among : (first : ℕ) (nodes : List Node) (place : ℕ) (node : Node) (shown : Record) → slice_get nodes place ≡ Some node → record_of setting profile (first + place) node ≡ Some shown
      → Contains (records_from setting profile first nodes) shown
  is_among first [] place node shown at its = absurd cc
  is_among first (head ∷ nodes) zero node shown at its =
      let same : node ≡ head = cc in
      Contains-append_left (option_list (record_of setting profile first head)) (records_from setting profile (first + 1) nodes) shown
      (is_listed (record_of setting profile first head) shown (subst (λ (n : Node). record_of setting profile first n ≡ Some shown) same (of_number (first + 0) first node shown (omega arith) its)))
  is_among first (head ∷ nodes) (suc place) node shown at its =
      Contains-append_right (option_list (record_of setting profile first head)) (records_from setting profile (first + 1) nodes) shown
      (is_among (first + 1) nodes place node shown at (of_number (first + suc place) (first + 1 + place) node shown (omega arith) its))

  pub recorded : (shown : Record) → Contains (records setting profile) shown → IsRecordIn setting profile shown
  recorded shown there =
      let one = among 1 profile.nodes shown there in
      record { id = suc one.place; node = one.node; there = one.at; its = of_number (1 + one.place) (suc one.place) one.node shown (omega arith) one.its }

  numbered_so : (id : ℕ) (node : Node) (shown : Record) → numbered profile.nodes id ≡ Some node → record_of setting profile id node ≡ Some shown → Contains (records setting profile) shown
  numbered_so zero node shown there its = absurd cc
  numbered_so (suc place) node shown there its = is_among 1 profile.nodes place node shown there (of_number (suc place) (1 + place) node shown (omega arith) its)

  pub is_recorded : (shown : Record) → IsRecordIn setting profile shown → Contains (records setting profile) shown
  is_recorded shown one = numbered_so one.id one.node shown one.there one.its
