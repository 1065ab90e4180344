-- What the pairs of two inventories say: each is right, each item has one, and they are in order.
use Rattle.std.proofs.Common.{◌≡◌, ◌∙◌, ℕ, zero, suc, ◌+◌, ◌≤◌, ◌⊎◌, Bool, true, false, List, [], ◌∷◌, drop, map, Option, Some, None, cond, refl, sym, ap, subst, inl, inr, arith}
use Rattle.std.specs.List.{AllByRecursion, filter, filter_map, slice_get}
use Rattle.std.specs.Option.{option_map_or}
use Rattle.droid_fixity.specs.Holding.{only_found, only_listed}
use Rattle.droid_fixity.specs.Inventories.{AreInOrder, IsBefore}
use Rattle.droid_fixity.specs.Pairing.{Merges, ends, both, listed, found, last_listed, last_found}
use Rattle.droid_fixity.specs.Reports.{is_absent, path_at}
use Rattle.droid_frame.specs.declared.item.Item.{Item}
use Rattle.droid_fixity.specs.declared.pair.Pair.{Pair}
use Rattle.droid_fixity.specs.declared.pair.Pair.TheVariants.{Both, Listed, Found}
use Rattle.droid_fixity.proofs.Order.{absent_apart, absent_before, absent_there, after_differs, after_is_before, before_all, equal_paths, first_left, none_left}
use Rattle.droid_fixity.proofs.Passing.{AnyByRecursion}

abbrev pub paths : List Item → List (List ℕ)
paths items = map (λ item. item.path) items

-- a path is among all items exactly if it is among those that are left
abbrev pub Agree : List Item → List Item → List Item → Type 0
Agree items all left = AllByRecursion (λ (item : Item). is_absent item.path all ≡ is_absent item.path left) items

pub agree_start : (items all : List Item) → Agree items all all
agree_start [] all = tt
agree_start (item ∷ items) all = (refl, agree_start items all)

-- one less is left, whose path none of these has
agree_less : (items all left : List Item) (first : Item) → AllByRecursion (IsBefore first.path) (paths items) → Agree items all (first ∷ left) → Agree items all left
agree_less [] all left first before agree = tt
agree_less (item ∷ items) all left first before agree =
    (agree.0 ∙ absent_apart item.path first left (after_differs item.path first.path before.0), agree_less items all left first before.1 agree.1)

-- the pairs, with what is known of each
pub data Pairs (all others : List Item) : ℕ → ℕ → List Item → List Item → List Pair → Type 0 where
  none : {l f : ℕ} → Pairs all others l f [] [] []
  both_have : {l f : ℕ} {a b : Item} {xs ys : List Item} {pairs : List Pair} → slice_get all l ≡ Some a → slice_get others f ≡ Some b → a.path ≡ b.path
      → AllByRecursion (IsBefore a.path) (paths xs) → AllByRecursion (IsBefore a.path) (paths ys)
      → Pairs all others (l + 1) (f + 1) xs ys pairs → Pairs all others l f (a ∷ xs) (b ∷ ys) (Both l f ∷ pairs)
  list_has : {l f : ℕ} {a : Item} {xs ys : List Item} {pairs : List Pair} → slice_get all l ≡ Some a → is_absent a.path others ≡ true
      → AllByRecursion (IsBefore a.path) (paths xs) → AllByRecursion (IsBefore a.path) (paths ys)
      → Pairs all others (l + 1) f xs ys pairs → Pairs all others l f (a ∷ xs) ys (Listed l ∷ pairs)
  was_found : {l f : ℕ} {b : Item} {xs ys : List Item} {pairs : List Pair} → slice_get others f ≡ Some b → is_absent b.path all ≡ true
      → AllByRecursion (IsBefore b.path) (paths xs) → AllByRecursion (IsBefore b.path) (paths ys)
      → Pairs all others l (f + 1) xs ys pairs → Pairs all others l f xs (b ∷ ys) (Found f ∷ pairs)

pub pairs_merge : {l f : ℕ} {xs ys : List Item} {pairs : List Pair} → Merges l f xs ys pairs → (all others : List Item) → xs ≡ drop l all → ys ≡ drop f others
    → AreInOrder (paths xs) → AreInOrder (paths ys) → Agree xs others ys → Agree ys all xs → Pairs all others l f xs ys pairs
pairs_merge ends all others left right up down here there = none
pairs_merge (both {l = l} {f = f} {a = a} {b = b} {xs = xs} {ys = ys} tied rest) all others left right up down here there =
    let spot = first_left all l a xs left in
    let other = first_left others f b ys right in
    let same : a.path ≡ b.path = equal_paths a.path b.path tied in
    let across : AllByRecursion (IsBefore b.path) (paths xs) = subst (λ (path : List ℕ). AllByRecursion (IsBefore path) (paths xs)) same up.0 in
    let back : AllByRecursion (IsBefore a.path) (paths ys) = subst (λ (path : List ℕ). AllByRecursion (IsBefore path) (paths ys)) (sym same) down.0 in
    both_have spot.0 other.0 same up.0 back (pairs_merge rest all others spot.1 other.1 up.1 down.1
    (agree_less xs others ys b across here.1) (agree_less ys all xs a back there.1))
pairs_merge (listed {l = l} {f = f} {a = a} {b = b} {xs = xs} {ys = ys} before rest) all others left right up down here there =
    let spot = first_left all l a xs left in
    let ahead : AllByRecursion (IsBefore a.path) (paths (b ∷ ys)) = (before, before_all a.path b.path ys before down.0) in
    list_has spot.0 (here.0 ∙ absent_before a.path (b ∷ ys) ahead) up.0 ahead
    (pairs_merge rest all others spot.1 right up.1 down here.1 (agree_less (b ∷ ys) all xs a ahead there))
pairs_merge (found {l = l} {f = f} {a = a} {b = b} {xs = xs} {ys = ys} after rest) all others left right up down here there =
    let other = first_left others f b ys right in
    let before : IsBefore b.path a.path = after_is_before a.path b.path after in
    let ahead : AllByRecursion (IsBefore b.path) (paths (a ∷ xs)) = (before, before_all b.path a.path xs before up.0) in
    was_found other.0 (there.0 ∙ absent_before b.path (a ∷ xs) ahead) ahead down.0
    (pairs_merge rest all others left other.1 up down.1 (agree_less (a ∷ xs) others ys b ahead here) there.1)
pairs_merge (last_listed {l = l} {f = f} {a = a} {xs = xs} rest) all others left right up down here there =
    let spot = first_left all l a xs left in
    list_has spot.0 here.0 up.0 tt (pairs_merge rest all others spot.1 right up.1 down here.1 there)
pairs_merge (last_found {l = l} {f = f} {b = b} {ys = ys} rest) all others left right up down here there =
    let other = first_left others f b ys right in
    was_found other.0 there.0 tt down.0 (pairs_merge rest all others left other.1 up down.1 here there.1)

-- a pair is right
pub data IsPair (all others : List Item) : Pair → Type 0 where
  is_both : {l f : ℕ} (a b : Item) → slice_get all l ≡ Some a → slice_get others f ≡ Some b → a.path ≡ b.path → IsPair all others (Both l f)
  is_listed : {l : ℕ} (a : Item) → slice_get all l ≡ Some a → is_absent a.path others ≡ true → IsPair all others (Listed l)
  is_found : {f : ℕ} (b : Item) → slice_get others f ≡ Some b → is_absent b.path all ≡ true → IsPair all others (Found f)

pub all_right : (all others : List Item) {l f : ℕ} {xs ys : List Item} {pairs : List Pair} → Pairs all others l f xs ys pairs → AllByRecursion (IsPair all others) pairs
all_right all others none = tt
all_right all others (both_have {a = a} {b = b} spot other same first second rest) = (is_both a b spot other same, all_right all others rest)
all_right all others (list_has {a = a} spot absent first second rest) = (is_listed a spot absent, all_right all others rest)
all_right all others (was_found {b = b} other absent first second rest) = (is_found b other absent, all_right all others rest)

-- each item has a pair
abbrev pub in_list : Pair → Option ℕ
in_list (Both l f) = Some l
in_list (Listed l) = Some l
in_list (Found f) = None

abbrev pub in_found : Pair → Option ℕ
in_found (Both l f) = Some f
in_found (Listed l) = None
in_found (Found f) = Some f

now_or_later : (place other : ℕ) → place ≤ other → (place ≡ other) ⊎ (place + 1 ≤ other)
now_or_later zero zero past = inl refl
now_or_later zero (suc other) past = inr (omega arith)
now_or_later (suc place) zero past = absurd (omega arith)
now_or_later (suc place) (suc other) past = elim (now_or_later place other (omega arith)) [
  | inl now ↦ inl (ap suc now)
  | inr later ↦ inr (omega (arith, later))
]

pub each_listed : (all others : List Item) {l f : ℕ} {xs ys : List Item} {pairs : List Pair} → Pairs all others l f xs ys pairs → xs ≡ drop l all
    → (place : ℕ) (item : Item) → l ≤ place → slice_get all place ≡ Some item → AnyByRecursion (λ pair. in_list pair ≡ Some place) pairs
each_listed all others {l = l} none left place item past there = absurd (none_left all l place item left past there)
each_listed all others {l = l} (both_have {a = a} {xs = xs} spot other same first second rest) left place item past there = elim (now_or_later l place past) [
  | inl now ↦ inl (ap Some now)
  | inr later ↦ inr (each_listed all others rest (first_left all l a xs left).1 place item later there)
]
each_listed all others {l = l} (list_has {a = a} {xs = xs} spot absent first second rest) left place item past there = elim (now_or_later l place past) [
  | inl now ↦ inl (ap Some now)
  | inr later ↦ inr (each_listed all others rest (first_left all l a xs left).1 place item later there)
]
each_listed all others (was_found other absent first second rest) left place item past there = inr (each_listed all others rest left place item past there)

pub each_found : (all others : List Item) {l f : ℕ} {xs ys : List Item} {pairs : List Pair} → Pairs all others l f xs ys pairs → ys ≡ drop f others
    → (place : ℕ) (item : Item) → f ≤ place → slice_get others place ≡ Some item → AnyByRecursion (λ pair. in_found pair ≡ Some place) pairs
each_found all others {f = f} none left place item past there = absurd (none_left others f place item left past there)
each_found all others {f = f} (both_have {b = b} {ys = ys} spot other same first second rest) left place item past there = elim (now_or_later f place past) [
  | inl now ↦ inl (ap Some now)
  | inr later ↦ inr (each_found all others rest (first_left others f b ys left).1 place item later there)
]
each_found all others (list_has spot absent first second rest) left place item past there = inr (each_found all others rest left place item past there)
each_found all others {f = f} (was_found {b = b} {ys = ys} other absent first second rest) left place item past there = elim (now_or_later f place past) [
  | inl now ↦ inl (ap Some now)
  | inr later ↦ inr (each_found all others rest (first_left others f b ys left).1 place item later there)
]

-- the items of the pairs that only one side has
cond_is : {X : Type 0} (test : Bool) (x : X) (xs : List X) → test ≡ true → cond test (x ∷ xs) xs ≡ x ∷ xs
cond_is test x xs holds = ap (λ (t : Bool). cond t (x ∷ xs) xs) holds

cond_not : {X : Type 0} (test : Bool) (x : X) (xs : List X) → test ≡ false → cond test (x ∷ xs) xs ≡ xs
cond_not test x xs fails = ap (λ (t : Bool). cond t (x ∷ xs) xs) fails

abbrev lone : List Item → List Item → List Item
lone items others = filter (λ (item : Item). is_absent item.path others) items

pub missing_items : (all others : List Item) {l f : ℕ} {xs ys : List Item} {pairs : List Pair} → Pairs all others l f xs ys pairs
    → map (slice_get all) (filter_map only_listed pairs) ≡ map Some (lone xs others)
missing_items all others none = refl
missing_items all others (both_have {f = f} {a = a} {b = b} {xs = xs} spot other same first second rest) =
    missing_items all others rest ∙ ap (map Some) (sym (cond_not (is_absent a.path others) a (lone xs others) (absent_there a.path others f b other same)))
missing_items all others (list_has {l = l} {a = a} {xs = xs} {pairs = pairs} spot absent first second rest) =
    ap (λ (o : Option Item). o ∷ map (slice_get all) (filter_map only_listed pairs)) spot
    ∙ (ap (λ (os : List (Option Item)). Some a ∷ os) (missing_items all others rest)
    ∙ ap (map Some) (sym (cond_is (is_absent a.path others) a (lone xs others) absent)))
missing_items all others (was_found other absent first second rest) = missing_items all others rest

pub new_items : (all others : List Item) {l f : ℕ} {xs ys : List Item} {pairs : List Pair} → Pairs all others l f xs ys pairs
    → map (slice_get others) (filter_map only_found pairs) ≡ map Some (lone ys all)
new_items all others none = refl
new_items all others (both_have {l = l} {a = a} {b = b} {ys = ys} spot other same first second rest) =
    new_items all others rest ∙ ap (map Some) (sym (cond_not (is_absent b.path all) b (lone ys all) (absent_there b.path all l a spot (sym same))))
new_items all others (list_has spot absent first second rest) = new_items all others rest
new_items all others (was_found {f = f} {b = b} {ys = ys} {pairs = pairs} other absent first second rest) =
    ap (λ (o : Option Item). o ∷ map (slice_get others) (filter_map only_found pairs)) other
    ∙ (ap (λ (os : List (Option Item)). Some b ∷ os) (new_items all others rest)
    ∙ ap (map Some) (sym (cond_is (is_absent b.path all) b (lone ys all) absent)))

-- the path of a pair
abbrev pub pair_path : List Item → List Item → Pair → List ℕ
pair_path all others (Both l f) = path_at all l
pair_path all others (Listed l) = path_at all l
pair_path all others (Found f) = path_at others f

pub path_is : (items : List Item) (place : ℕ) (item : Item) → slice_get items place ≡ Some item → path_at items place ≡ item.path
path_is items place item there = ap (λ (o : Option Item). option_map_or (λ one. one.path) o []) there

-- a path that comes before the items that are left comes before the paths of all their pairs
before_pairs : (all others : List Item) {l f : ℕ} {xs ys : List Item} {pairs : List Pair} → Pairs all others l f xs ys pairs → (path : List ℕ)
    → AllByRecursion (IsBefore path) (paths xs) → AllByRecursion (IsBefore path) (paths ys) → AllByRecursion (IsBefore path) (map (pair_path all others) pairs)
before_pairs all others none path up down = tt
before_pairs all others (both_have {l = l} {a = a} spot other same first second rest) path up down = (subst (IsBefore path) (sym (path_is all l a spot)) up.0, before_pairs all others rest path up.1 down.1)
before_pairs all others (list_has {l = l} {a = a} spot absent first second rest) path up down = (subst (IsBefore path) (sym (path_is all l a spot)) up.0, before_pairs all others rest path up.1 down)
before_pairs all others (was_found {f = f} {b = b} other absent first second rest) path up down = (subst (IsBefore path) (sym (path_is others f b other)) down.0, before_pairs all others rest path up down.1)

-- the paths of the pairs are in order
pub in_order : (all others : List Item) {l f : ℕ} {xs ys : List Item} {pairs : List Pair} → Pairs all others l f xs ys pairs → AreInOrder (map (pair_path all others) pairs)
in_order all others none = tt
in_order all others (both_have {l = l} {a = a} {pairs = pairs} spot other same first second rest) =
    (subst (λ (path : List ℕ). AllByRecursion (IsBefore path) (map (pair_path all others) pairs)) (sym (path_is all l a spot)) (before_pairs all others rest a.path first second), in_order all others rest)
in_order all others (list_has {l = l} {a = a} {pairs = pairs} spot absent first second rest) =
    (subst (λ (path : List ℕ). AllByRecursion (IsBefore path) (map (pair_path all others) pairs)) (sym (path_is all l a spot)) (before_pairs all others rest a.path first second), in_order all others rest)
in_order all others (was_found {f = f} {b = b} {pairs = pairs} other absent first second rest) =
    (subst (λ (path : List ℕ). AllByRecursion (IsBefore path) (map (pair_path all others) pairs)) (sym (path_is others f b other)) (before_pairs all others rest b.path first second), in_order all others rest)
