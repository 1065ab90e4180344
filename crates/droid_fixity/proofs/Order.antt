-- The order of paths, and the places of items that are in order.
use Rattle.std.proofs.Common.{◌≡◌, ◌∙◌, ℕ, zero, suc, ◌+◌, ◌-◌, ◌≤◌, Bool, true, false, not, ◌||◌, List, [], ◌∷◌, drop, length, map, Some, refl, sym, ap, arith, length-drop}
use Rattle.std.specs.Cmp.Lexicographic.{slice_cmp}
use Rattle.std.specs.List.{AllByRecursion, list_any, slice_get}
use Rattle.std.specs.Ordering.{nat_cmp, ordering_reverse}
use Rattle.std.specs.Str.{bytes_eq}
use Rattle.std.specs.declared.cmp.Ordering.TheVariants.{Less, Equal, Greater}
use Rattle.std.proofs.lemmas.Bool.{false_from_ne_true}
use Rattle.std.proofs.lemmas.Cmp.{nat_list_cmp_total, tied_itself}
use Rattle.std.proofs.lemmas.Map.Keys.{any_passes_from_place}
use Rattle.std.proofs.lemmas.Map.Lookups.{exact_bytes}
use Rattle.std.proofs.lemmas.Option.{slice_get_within}
use Rattle.std.proofs.lemmas.Slice.Eq.{bytes_eq-Decides}
use Rattle.droid_fixity.specs.Inventories.{AreInOrder, IsBefore}
use Rattle.droid_fixity.specs.Reports.{is_absent}
use Rattle.droid_frame.specs.declared.item.Item.{Item}

-- what the order says of two paths
pub equal_paths : (a b : List ℕ) → slice_cmp nat_cmp a b ≡ Equal → a ≡ b
equal_paths a b tied = exact_bytes a b tied

pub after_is_before : (a b : List ℕ) → slice_cmp nat_cmp a b ≡ Greater → IsBefore b a
after_is_before a b after = nat_list_cmp_total.antisymm b a ∙ ap ordering_reverse after

pub before_before : (a b c : List ℕ) → IsBefore a b → IsBefore b c → IsBefore a c
before_before a b c first second = nat_list_cmp_total.trans a b c first second

pub before_other : (a b : List ℕ) → IsBefore a b → a ≡ b → ⊥
before_other a b before same =
    let itself : slice_cmp nat_cmp a a ≡ Equal = tied_itself nat_list_cmp_total a in
    let less : slice_cmp nat_cmp a a ≡ Less = ap (λ (path : List ℕ). slice_cmp nat_cmp a path) same ∙ before in
    cc

same_bytes : (a b : List ℕ) → a ≡ b → bytes_eq a b ≡ true
same_bytes a b same = (bytes_eq-Decides a b).1 same

pub before_differs : (a b : List ℕ) → IsBefore a b → bytes_eq a b ≡ false
before_differs a b before = false_from_ne_true _ (λ holds. before_other a b before ((bytes_eq-Decides a b).0 holds))

pub after_differs : (a b : List ℕ) → IsBefore b a → bytes_eq a b ≡ false
after_differs a b before = false_from_ne_true _ (λ holds. before_other b a before (sym ((bytes_eq-Decides a b).0 holds)))

-- what comes before the first of items in order comes before all
pub before_all : (a b : List ℕ) (items : List Item) → IsBefore a b → AllByRecursion (IsBefore b) (map (λ item. item.path) items) → AllByRecursion (IsBefore a) (map (λ item. item.path) items)
before_all a b [] before rest = tt
before_all a b (item ∷ items) before rest = (before_before a b item.path before rest.0, before_all a b items before rest.1)

-- a path among items
pub absent_apart : (path : List ℕ) (item : Item) (items : List Item) → bytes_eq path item.path ≡ false → is_absent path (item ∷ items) ≡ is_absent path items
absent_apart path item items apart = ap (λ (test : Bool). not (test || list_any (λ one. bytes_eq path one.path) items)) apart

pub absent_same : (path : List ℕ) (item : Item) (items : List Item) → path ≡ item.path → is_absent path (item ∷ items) ≡ false
absent_same path item items same = ap (λ (test : Bool). not (test || list_any (λ one. bytes_eq path one.path) items)) (same_bytes path item.path same)

pub absent_before : (path : List ℕ) (items : List Item) → AllByRecursion (IsBefore path) (map (λ item. item.path) items) → is_absent path items ≡ true
absent_before path [] before = refl
absent_before path (item ∷ items) before = absent_apart path item items (before_differs path item.path before.0) ∙ absent_before path items before.1

pub absent_there : (path : List ℕ) (items : List Item) (place : ℕ) (item : Item) → slice_get items place ≡ Some item → path ≡ item.path → is_absent path items ≡ false
absent_there path items place item there same = ap not (any_passes_from_place (λ one. bytes_eq path one.path) items place item there (same_bytes path item.path same))

-- items in order have each path at one place
before_there : (path : List ℕ) (items : List Item) (place : ℕ) (item : Item) → AllByRecursion (IsBefore path) (map (λ one. one.path) items) → slice_get items place ≡ Some item → IsBefore path item.path
before_there path [] place item before there = cc
before_there path (first ∷ items) zero item before there = let same : first ≡ item = cc in rw (← same) before.0
before_there path (first ∷ items) (suc place) item before there = before_there path items place item before.1 there

pub same_place : (items : List Item) (k j : ℕ) (a b : Item) → AreInOrder (map (λ item. item.path) items) → slice_get items k ≡ Some a → slice_get items j ≡ Some b → a.path ≡ b.path → k ≡ j
same_place [] k j a b in_order here there same = cc
same_place (first ∷ items) zero zero a b in_order here there same = refl
same_place (first ∷ items) zero (suc j) a b in_order here there same =
    let is : first ≡ a = cc in
    absurd (before_other first.path b.path (before_there first.path items j b in_order.0 there) (ap (λ item. item.path) is ∙ same))
same_place (first ∷ items) (suc k) zero a b in_order here there same =
    let is : first ≡ b = cc in
    absurd (before_other first.path a.path (before_there first.path items k a in_order.0 here) (ap (λ item. item.path) is ∙ sym same))
same_place (first ∷ items) (suc k) (suc j) a b in_order here there same = ap suc (same_place items k j a b in_order.1 here there same)

-- the first of what is left
pub first_left : {X : Type 0} (all : List X) (place : ℕ) (x : X) (rest : List X) → x ∷ rest ≡ drop place all → (slice_get all place ≡ Some x) × (rest ≡ drop (place + 1) all)
first_left [] zero x rest left = cc
first_left [] (suc place) x rest left = cc
first_left (first ∷ all) zero x rest left = let is : first ≡ x = cc in let same : rest ≡ all = cc in (ap Some is, same)
first_left (first ∷ all) (suc place) x rest left =
    let e : suc place + 1 ≡ suc (place + 1) = omega arith in
    rw e (first_left all place x rest left)

-- nothing is left
pub none_left : {X : Type 0} (all : List X) (place other : ℕ) (x : X) → [] ≡ drop place all → place ≤ other → slice_get all other ≡ Some x → ⊥
none_left all place other x left past there =
    let none : 0 ≡ length all - place = ap length left ∙ length-drop place all in
    omega (arith, none, slice_get_within all other x there)
