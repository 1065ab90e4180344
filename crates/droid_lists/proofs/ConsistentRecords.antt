-- The records of one profile do not contradict each other.
use Rattle.std.proofs.Common.{◌≡◌, ℕ, zero, suc, ◌+◌, ◌-◌, ◌==◌, ◌||◌, Bool, true, false, cond, List, [], ◌∷◌, ◌++◌, inl, inr, length, map, max, filter, None, refl, sym, subst, arith}
use Rattle.std.specs.List.{AllByRecursion, Contains, IsDistinct, list_any}
use Rattle.std.specs.Prelude.{⊤}
use Rattle.droid_frame.specs.declared.hash_kind.HashKind.{HashKind}
use Rattle.droid_frame.specs.declared.record.Record.{Record}
use Rattle.droid_export.specs.FolderMaps.{IsSaid}
use Rattle.droid_export.specs.FolderNumbers.{Saying, above_sayings, agree, column_against, contradiction, contradiction_from, fit, own_sayings}
use Rattle.droid_export.specs.Profiles.{tag_of}
use Rattle.droid_export.proofs.Sayings.{all_pass, said_more}
use Rattle.droid_export.proofs.RowTypes.{Entry, Spot, Tag}
use Rattle.droid_lists.specs.Exports.{AreRecordsOf, item_of_record, items_of, sayings_of, sayings_of_record}

-- ---- what the rows of a record say

-- how many bytes of its path are that of the folder above
abbrev pub above_length : Record → ℕ
above_length node = length node.path - (length node.name + 1)

abbrev pub spot_at : Record → Spot
spot_at node = record { id = node.id; parent = node.parent; above = above_length node }

abbrev pub entry_at : Record → Entry
entry_at node = record { item = item_of_record node; spot = spot_at node; rows = max 1 (length node.puids) }

abbrev pub tag_at : ℕ → Record → Tag
tag_at number node = tag_of number (entry_at node)

-- the tags of records, whatever their numbers
abbrev pub AreTags : List Tag → List Record → Type 0
AreTags [] [] = ⊤
AreTags [] (node ∷ nodes) = ⊥
AreTags (tag ∷ tags) [] = ⊥
AreTags (tag ∷ tags) (node ∷ nodes) = ((number : ℕ) × (tag ≡ tag_at number node)) × AreTags tags nodes

pub one_tag_more : (number : ℕ) (node : Record) (tags : List Tag) (nodes : List Record) → AreTags tags nodes → AreTags (tags ++ tag_at number node ∷ []) (nodes ++ node ∷ [])
one_tag_more number node [] [] are = ((number, refl), tt)
one_tag_more number node [] (other ∷ nodes) are = absurd are
one_tag_more number node (tag ∷ tags) [] are = absurd are
one_tag_more number node (tag ∷ tags) (other ∷ nodes) are = (are.0, one_tag_more number node tags nodes are.1)

-- ---- lists

all_front : (P : Saying → Type 0) (xs ys : List Saying) → AllByRecursion P (xs ++ ys) → AllByRecursion P xs
all_front P [] ys all = tt
all_front P (x ∷ xs) ys all = (all.0, all_front P xs ys all.1)

all_back : (P : Saying → Type 0) (xs ys : List Saying) → AllByRecursion P (xs ++ ys) → AllByRecursion P ys
all_back P [] ys all = all
all_back P (x ∷ xs) ys all = all_back P xs ys all.1

all_both : (P : Saying → Type 0) (xs ys : List Saying) → AllByRecursion P xs → AllByRecursion P ys → AllByRecursion P (xs ++ ys)
all_both P [] ys front back = back
all_both P (x ∷ xs) ys front back = (front.0, all_both P xs ys front.1 back)

all_kept : (P : Record → Type 0) (test : Record → Bool) (nodes : List Record) → AllByRecursion P nodes → AllByRecursion P (filter test nodes)
all_kept P test [] all = tt
all_kept P test (node ∷ nodes) all = by_test (test node) (all_kept P test nodes all.1)
  where
    by_test : (chosen : Bool) → AllByRecursion P (filter test nodes) → AllByRecursion P (cond chosen (node ∷ filter test nodes) (filter test nodes))
    by_test true rest = (all.0, rest)
    by_test false rest = rest

-- ---- IDs

abbrev ids_of : List Record → List ℕ
ids_of nodes = map (λ node. node.id) nodes

abbrev IsNew : List ℕ → Record → Type 0
IsNew ids node = list_any (λ x. x == node.id) ids ≡ false

or_parts : (a b : Bool) → (a || b) ≡ false → (a ≡ false) × (b ≡ false)
or_parts true b none = cc
or_parts false b none = (refl, none)

any_more : (test : ℕ → Bool) (ids : List ℕ) (id : ℕ) → list_any test ids ≡ false → test id ≡ false → list_any test (ids ++ id ∷ []) ≡ false
any_more test [] id none last = rw last refl
any_more test (x ∷ ids) id none last =
    let parts = or_parts (test x) (list_any test ids) none in
    rw parts.0 (any_more test ids id parts.1 last)

still_new : (ids : List ℕ) (id : ℕ) (nodes : List Record) → AllByRecursion (IsNew ids) nodes → AllByRecursion (λ other. (id == other) ≡ false) (ids_of nodes) → AllByRecursion (IsNew (ids ++ id ∷ [])) nodes
still_new ids id [] new apart = tt
still_new ids id (node ∷ nodes) new apart = (any_more (λ x. x == node.id) ids id new.0 apart.0, still_new ids id nodes new.1 apart.1)

apart_kept : (id : ℕ) (test : Record → Bool) (nodes : List Record) → AllByRecursion (λ other. (id == other) ≡ false) (ids_of nodes) → AllByRecursion (λ other. (id == other) ≡ false) (ids_of (filter test nodes))
apart_kept id test [] all = tt
apart_kept id test (node ∷ nodes) all = by_test (test node) (apart_kept id test nodes all.1)
  where
    by_test : (chosen : Bool) → AllByRecursion (λ other. (id == other) ≡ false) (ids_of (filter test nodes)) → AllByRecursion (λ other. (id == other) ≡ false) (ids_of (cond chosen (node ∷ filter test nodes) (filter test nodes)))
    by_test true rest = (all.0, rest)
    by_test false rest = rest

distinct_by : (test : Record → Bool) (node : Record) (nodes : List Record) (chosen : Bool) → AllByRecursion (λ other. (node.id == other) ≡ false) (ids_of (filter test nodes)) → IsDistinct (λ a b. a == b) (ids_of (filter test nodes))
    → IsDistinct (λ a b. a == b) (ids_of (cond chosen (node ∷ filter test nodes) (filter test nodes)))
unfolding IsDistinct
distinct_by test node nodes true apart rest = (apart, rest)
distinct_by test node nodes false apart rest = rest

distinct_kept : (test : Record → Bool) (nodes : List Record) → IsDistinct (λ a b. a == b) (ids_of nodes) → IsDistinct (λ a b. a == b) (ids_of (filter test nodes))
unfolding IsDistinct
distinct_kept test [] all = tt
distinct_kept test (node ∷ nodes) all = distinct_by test node nodes (test node) (apart_kept node.id test nodes all.0) (distinct_kept test nodes all.1)

all_new : (nodes : List Record) → AllByRecursion (IsNew []) nodes
all_new [] = tt
all_new (node ∷ nodes) = (refl, all_new nodes)

-- ---- sayings

-- sayings any two of which agree
module _ (P : Saying → Type 0) (each : (x y : Saying) → P x → P y → agree x y ≡ true) where
  agrees_with : (x : Saying) (said : List Saying) → P x → AllByRecursion P said → AllByRecursion (λ y. agree x y ≡ true) said
  agrees_with x [] here all = tt
  agrees_with x (y ∷ said) here all = (each x y here all.0, agrees_with x said here all.1)

  fits : (said sayings : List Saying) → AllByRecursion P said → AllByRecursion P sayings → fit said sayings ≡ true
  fits said [] before all = refl
  fits said (x ∷ sayings) before all = rw (all_pass (agree x) said (agrees_with x said all.0 before)) (fits said sayings before all.1)

  pub none_from : (ids : List ℕ) (said : List Saying) (nodes : List Record) (tags : List Tag) → AreTags tags nodes → AllByRecursion P said
      → AllByRecursion (λ node. AllByRecursion P (sayings_of_record node)) nodes → AllByRecursion (IsNew ids) nodes → IsDistinct (λ a b. a == b) (ids_of nodes)
      → contradiction_from ids said (items_of nodes) tags ≡ None
  unfolding IsDistinct
  none_from ids said [] [] are before all new distinct = refl
  none_from ids said [] (tag ∷ tags) are before all new distinct = refl
  none_from ids said (node ∷ nodes) [] are before all new distinct = refl
  none_from ids said (node ∷ nodes) (tag ∷ tags) are before all new distinct =
      let item = item_of_record node in
      let here = tag_at are.0.0 node in
      let own : AllByRecursion P (own_sayings item here) = all_front P (own_sayings item here) (above_sayings item here) all.0 in
      let above : AllByRecursion P (above_sayings item here) = all_back P (own_sayings item here) (above_sayings item here) all.0 in
      let after_own = all_both P said (own_sayings item here) before own in
      let rest = none_from (ids ++ node.id ∷ []) ((said ++ own_sayings item here) ++ above_sayings item here) nodes tags are.1
      (all_both P (said ++ own_sayings item here) (above_sayings item here) after_own above) all.1 (still_new ids node.id nodes new.1 distinct.0) distinct.1 in
      let column : column_against ids said item here ≡ None =
      rw (new.0, fits said (own_sayings item here) before own, fits (said ++ own_sayings item here) (above_sayings item here) after_own above) refl in
      subst (λ (t : Tag). contradiction_from ids said (item ∷ items_of nodes) (t ∷ tags) ≡ None) (sym are.0.1) (rw (column, rest) refl)

said_behind : (front said : List Saying) (x : Saying) → IsSaid said x → IsSaid (front ++ said) x
said_behind [] said x there = there
said_behind (y ∷ front) said x there = inr (said_behind front said x there)

all_said : (P : Saying → Type 0) (said : List Saying) → ((x : Saying) → IsSaid said x → P x) → AllByRecursion P said
all_said P [] each = tt
all_said P (x ∷ said) each = (each x (inl refl), all_said P said (λ y there. each y (inr there)))

-- what each record says is among what all say
each_said : (P : Saying → Type 0) (nodes : List Record) → ((x : Saying) → IsSaid (sayings_of nodes) x → P x) → AllByRecursion (λ node. AllByRecursion P (sayings_of_record node)) nodes
each_said P [] each = tt
each_said P (node ∷ nodes) each = (
  all_said P (sayings_of_record node) (λ x there. each x (said_more (sayings_of_record node) (sayings_of nodes) x there)),
  each_said P nodes (λ x there. each x (said_behind (sayings_of_record node) (sayings_of nodes) x there)),
)

to_contains : (said : List Saying) (x : Saying) → IsSaid said x → Contains said x
to_contains [] x none = absurd none
to_contains (y ∷ said) x (inl is) = (zero, omega arith, is)
to_contains (y ∷ said) x (inr rest) = let there = to_contains said x rest in (suc there.0, omega (arith, there.1), there.2)

pub no_contradiction : (hash : HashKind) (test : Record → Bool) (nodes : List Record) → AreRecordsOf hash nodes
    → (tags : List Tag) → AreTags tags (filter test nodes) → contradiction (items_of (filter test nodes)) tags ≡ None
no_contradiction hash test nodes are = λ tags they.
    none_from (λ x. IsSaid (sayings_of nodes) x)
    (λ x y one other. are.folders x y (to_contains (sayings_of nodes) x one) (to_contains (sayings_of nodes) y other))
    [] [] (filter test nodes) tags they tt
    (all_kept (λ node. AllByRecursion (λ x. IsSaid (sayings_of nodes) x) (sayings_of_record node)) test nodes (each_said (λ x. IsSaid (sayings_of nodes) x) nodes (λ x there. there)))
    (all_new (filter test nodes)) (distinct_kept test nodes are.ids)
