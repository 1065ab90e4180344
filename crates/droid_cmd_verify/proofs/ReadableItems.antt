-- The items that could be read, of items in order of path.
use Rattle.std.proofs.Common.{◌≡◌, ◌∙◌, ◌+◌, ◌≤◌, ◌&&◌, ◌||◌, ℕ, zero, suc, Bool, true, false, not, List, [], ◌∷◌, cond, filter, length, map, refl, sym, ap, subst, arith}
use Rattle.std.specs.Cmp.Lexicographic.{slice_cmp}
use Rattle.std.specs.List.{AllByRecursion, count_by}
use Rattle.std.specs.Ordering.{nat_cmp}
use Rattle.std.specs.Prelude.{IsPermutation}
use Rattle.std.specs.Str.{bytes_eq}
use Rattle.std.specs.declared.cmp.Ordering.TheVariants.{Less, Equal}
use Rattle.std.proofs.lemmas.Bool.{false_from_ne_true}
use Rattle.std.proofs.lemmas.Cmp.{nat_list_cmp_total, tied_itself}
use Rattle.std.proofs.lemmas.List.Filters.{sum_by-filter_both}
use Rattle.std.proofs.lemmas.List.Sorted.{IsPermutation-refl}
use Rattle.std.proofs.lemmas.List.Sums.{sum_by-cons}
use Rattle.std.proofs.lemmas.Slice.Eq.{bytes_eq-Decides}
use Rattle.droid_fixity.specs.Inventories.{AreInOrder, IsBefore, IsTwice}
use Rattle.droid_frame.specs.declared.item.Item.{Item}
use Rattle.droid_lists.specs.Listings.{IsInventory}
use Rattle.droid_terminal.specs.SkippedPaths.{ends_name, has_path, holds_front, some_below}
use Rattle.droid_terminal.specs.declared.skipped.skipped_entry.SkippedEntry.{SkippedEntry}
use Rattle.droid_cmd_verify.specs.CheckedTrees.{is_readable, readable_in}

abbrev paths : List Item → List (List ℕ)
paths items = map (λ item. item.path) items

-- ---- some of the items are in order

before_by : (passes : Bool) (path : List ℕ) (test : Item → Bool) (item : Item) (items : List Item) → IsBefore path item.path → AllByRecursion (IsBefore path) (paths (filter test items))
    → AllByRecursion (IsBefore path) (paths (cond passes (item ∷ filter test items) (filter test items)))
before_by true path test item items first rest = (first, rest)
before_by false path test item items first rest = rest

before_some : (path : List ℕ) (test : Item → Bool) (items : List Item) → AllByRecursion (IsBefore path) (paths items) → AllByRecursion (IsBefore path) (paths (filter test items))
before_some path test [] all = tt
before_some path test (item ∷ items) all = before_by (test item) path test item items all.0 (before_some path test items all.1)

order_by : (passes : Bool) (test : Item → Bool) (item : Item) (items : List Item) → AllByRecursion (IsBefore item.path) (paths (filter test items)) → AreInOrder (paths (filter test items))
    → AreInOrder (paths (cond passes (item ∷ filter test items) (filter test items)))
order_by true test item items first rest = (first, rest)
order_by false test item items first rest = rest

pub some_in_order : (test : Item → Bool) (items : List Item) → AreInOrder (paths items) → AreInOrder (paths (filter test items))
some_in_order test [] in_order = tt
some_in_order test (item ∷ items) in_order = order_by (test item) test item items (before_some item.path test items in_order.0) (some_in_order test items in_order.1)

-- ---- no path is there twice

before_differs : (a b : List ℕ) → IsBefore a b → bytes_eq a b ≡ false
before_differs a b before =
    false_from_ne_true _ (λ holds.
    let same : a ≡ b = (bytes_eq-Decides a b).0 holds in
    let itself : slice_cmp nat_cmp a a ≡ Equal = tied_itself nat_list_cmp_total a in
    let less : slice_cmp nat_cmp a a ≡ Less = ap (λ (path : List ℕ). slice_cmp nat_cmp a path) same ∙ before in
    cc)

-- how many items have a path
abbrev having : List ℕ → List Item → ℕ
having path items = count_by (λ item. bytes_eq path item.path) items

abbrev one_if : Bool → ℕ
one_if same = cond same 1 0

one_more : (path : List ℕ) (item : Item) (items : List Item) → having path (item ∷ items) ≡ one_if (bytes_eq path item.path) + having path items
one_more path item items = sum_by-cons (λ it. one_if (bytes_eq path it.path)) item items

one_more_by : (same : Bool) (path : List ℕ) (item : Item) (items : List Item) → bytes_eq path item.path ≡ same → having path (item ∷ items) ≡ one_if same + having path items
one_more_by same path item items is = one_more path item items ∙ ap (λ (b : Bool). one_if b + having path items) is

none_after : (path : List ℕ) (items : List Item) → AllByRecursion (IsBefore path) (paths items) → having path items ≡ 0
none_after path [] before = refl
none_after path (item ∷ items) before =
    let more : having path (item ∷ items) ≡ 0 + having path items = one_more_by false path item items (before_differs path item.path before.0) in
    let rest : having path items ≡ 0 = none_after path items before.1 in
    omega (arith, more, rest)

once_by : (same : Bool) (path : List ℕ) (item : Item) (items : List Item) → bytes_eq path item.path ≡ same → AllByRecursion (IsBefore item.path) (paths items) → having path items ≤ 1 → having path (item ∷ items) ≤ 1
once_by true path item items is after rest =
    let equal : path ≡ item.path = (bytes_eq-Decides path item.path).0 is in
    let none : having path items ≡ 0 = none_after path items (subst (λ (p : List ℕ). AllByRecursion (IsBefore p) (paths items)) (sym equal) after) in
    let more : having path (item ∷ items) ≡ 1 + having path items = one_more_by true path item items is in
    omega (arith, more, none)
once_by false path item items is after rest =
    let more : having path (item ∷ items) ≡ 0 + having path items = one_more_by false path item items is in
    omega (arith, more, rest)

at_most_once : (path : List ℕ) (items : List Item) → AreInOrder (paths items) → having path items ≤ 1
at_most_once path [] in_order = omega arith
at_most_once path (item ∷ items) in_order = once_by (bytes_eq path item.path) path item items refl in_order.0 (at_most_once path items in_order.1)

pub never_twice : (items : List Item) (path : List ℕ) → AreInOrder (paths items) → IsTwice items path → ⊥
never_twice items path in_order twice =
    let most : having path items ≤ 1 = at_most_once path items in_order in
    omega (arith, most, twice)

-- a path that two of the items have that could be read is that of two of all
pub twice_among : (unreadable : List SkippedEntry) (items : List Item) (path : List ℕ) → IsTwice (readable_in unreadable items) path → IsTwice items path
twice_among unreadable items path twice =
    let parts : having path (readable_in unreadable items) + having path (filter (λ item. not (is_readable unreadable item)) items) ≡ having path items =
    sum_by-filter_both (is_readable unreadable) (λ item. not (is_readable unreadable item)) (λ item. refl) (λ item. one_if (bytes_eq path item.path)) items in
    omega (arith, parts, twice)

-- ---- where nothing is unreadable, all items could be read

and_false : (test : Bool) → (test && false) ≡ false
and_false true = refl
and_false false = refl

nothing_held : (path : List ℕ) (n : ℕ) → some_below (holds_front (has_path []) path) n ≡ false
nothing_held path zero = refl
nothing_held path (suc n) = ap (λ (b : Bool). b || some_below (holds_front (has_path []) path) n) (and_false (ends_name path n)) ∙ nothing_held path n

is_read : (item : Item) → is_readable [] item ≡ true
is_read item = ap not (nothing_held item.path (suc (length item.path)))

pub all_read : (items : List Item) → readable_in [] items ≡ items
all_read [] = refl
all_read (item ∷ items) =
    ap (λ (b : Bool). cond b (item ∷ readable_in [] items) (readable_in [] items)) (is_read item) ∙ ap (λ (its : List Item). item ∷ its) (all_read items)

pub read_inventory : (unreadable : List SkippedEntry) (items : List Item) → unreadable ≡ [] → AreInOrder (paths items) → IsInventory (readable_in unreadable items) items
read_inventory unreadable items none in_order = record {
  same = subst (λ (its : List Item). IsPermutation its items) (sym (ap (λ (u : List SkippedEntry). readable_in u items) none ∙ all_read items)) (IsPermutation-refl items);
  in_order = in_order;
}
