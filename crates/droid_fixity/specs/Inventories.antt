-- Inventories: lists of items in the order of their paths, no path twice.
use Rattle.std.specs.Prelude.{◌≡◌, ◌<◌, ◌-◌, ℕ, Bool, List, [], ◌∷◌, Some, count_by, slice_get, ⊤}
use Rattle.std.specs.List.{AllByRecursion}
use Rattle.std.specs.Ordering.{is_lt, nat_cmp}
use Rattle.std.specs.Cmp.Lexicographic.{slice_cmp}
use Rattle.std.specs.Str.{bytes_eq}
use Rattle.std.specs.declared.cmp.Ordering.TheVariants.{Less}
use Rattle.droid_frame.specs.declared.item.Item.{Item}

-- the order of paths: the first differing byte decides; if there is none, the shorter path comes first
abbrev pub IsBefore : List ℕ → List ℕ → Type 0
IsBefore first second = slice_cmp nat_cmp first second ≡ Less

-- each path comes before all paths after it
abbrev pub AreInOrder : List (List ℕ) → Type 0
AreInOrder [] = ⊤
AreInOrder (path ∷ paths) = AllByRecursion (IsBefore path) paths × AreInOrder paths

-- more than one item has this path
abbrev pub IsTwice : List Item → List ℕ → Type 0
IsTwice items path = 1 < count_by (λ item. bytes_eq path item.path) items

-- For inner clauses and proofs: the same order as a test, of two paths and of the items in front of a place and at it.
abbrev pub is_before : List ℕ → List ℕ → Bool
is_before first second = is_lt (slice_cmp nat_cmp first second)

-- the test of the item in front of this place and the one at it
abbrev pub IsBeforeAt : List Item → ℕ → Bool → Type 0
IsBeforeAt items place test =
    (first second : Item) → slice_get items (place - 1) ≡ Some first → slice_get items place ≡ Some second
    → is_before first.path second.path ≡ test
