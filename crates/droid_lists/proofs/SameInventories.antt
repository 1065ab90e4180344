-- Two inventories of the same items are the same.
use Rattle.std.proofs.Common.{◌≡◌, ◌∙◌, ◌⊎◌, inl, inr, ℕ, zero, suc, List, [], ◌∷◌, map, refl, sym, ap, subst, arith}
use Rattle.std.specs.Cmp.Lexicographic.{slice_cmp}
use Rattle.std.specs.List.{AllByRecursion, Contains}
use Rattle.std.specs.Ordering.{nat_cmp}
use Rattle.std.specs.Prelude.{IsPermutation}
use Rattle.std.specs.declared.cmp.Ordering.TheVariants.{Equal}
use Rattle.std.proofs.lemmas.Cmp.{nat_list_cmp_total, tied_itself}
use Rattle.std.proofs.lemmas.List.Sorted.{Contains-permutation, IsPermutation-sym}
use Rattle.droid_fixity.specs.Inventories.{AreInOrder, IsBefore}
use Rattle.droid_frame.specs.declared.item.Item.{Item}
use Rattle.droid_lists.specs.Inventories.{IsInventory}

abbrev paths : List Item → List (List ℕ)
paths items = map (λ item. item.path) items

-- ---- being among items

abbrev IsIn : Item → List Item → Type 0
IsIn item [] = ⊥
IsIn item (x ∷ xs) = (x ≡ item) ⊎ IsIn item xs

from_contains : (items : List Item) (item : Item) → Contains items item → IsIn item items
from_contains [] item has = absurd (omega (arith, has.1))
from_contains (x ∷ xs) item (zero, below, is) = inl is
from_contains (x ∷ xs) item (suc k, below, is) = inr (from_contains xs item (k, omega (arith, below), is))

to_contains : (items : List Item) (item : Item) → IsIn item items → Contains items item
to_contains [] item none = absurd none
to_contains (x ∷ xs) item (inl is) = (zero, omega arith, is)
to_contains (x ∷ xs) item (inr rest) = let there = to_contains xs item rest in (suc there.0, omega (arith, there.1), there.2)

permuted : (xs ys : List Item) → IsPermutation xs ys → (item : Item) → IsIn item xs → IsIn item ys
permuted xs ys same item there = from_contains ys item (Contains-permutation xs ys item same (to_contains xs item there))

-- ---- order

never : (path : List ℕ) → IsBefore path path → ⊥
never path before = let itself : slice_cmp nat_cmp path path ≡ Equal = tied_itself nat_list_cmp_total path in cc

before_in : (path : List ℕ) (items : List Item) (item : Item) → AllByRecursion (IsBefore path) (paths items) → IsIn item items → IsBefore path item.path
before_in path [] item all none = absurd none
before_in path (x ∷ items) item all (inl is) = subst (λ (it : Item). IsBefore path it.path) is all.0
before_in path (x ∷ items) item all (inr rest) = before_in path items item all.1 rest

heads : (x y : Item) (xs ys : List Item) → AllByRecursion (IsBefore x.path) (paths xs) → AllByRecursion (IsBefore y.path) (paths ys) → IsIn x (y ∷ ys) → IsIn y (x ∷ xs) → x ≡ y
heads x y xs ys before after (inl is) other = sym is
heads x y xs ys before after (inr later) (inl is) = is
heads x y xs ys before after (inr later) (inr also) =
    absurd (never x.path (nat_list_cmp_total.trans x.path y.path x.path (before_in x.path xs y before also) (before_in y.path ys x after later)))

later_by : (x y : Item) (ys : List Item) (z : Item) → x ≡ y → IsBefore x.path z.path → IsIn z (y ∷ ys) → IsIn z ys
later_by x y ys z same before (inl is) = absurd (never x.path (subst (λ (it : Item). IsBefore x.path it.path) (sym is ∙ sym same) before))
later_by x y ys z same before (inr rest) = rest

later : (x y : Item) (xs ys : List Item) → x ≡ y → AllByRecursion (IsBefore x.path) (paths xs) → ((z : Item) → IsIn z (x ∷ xs) → IsIn z (y ∷ ys))
    → (z : Item) → IsIn z xs → IsIn z ys
later x y xs ys same before into z there = later_by x y ys z same (before_in x.path xs z before there) (into z (inr there))

same_lists : (xs ys : List Item) → AreInOrder (paths xs) → AreInOrder (paths ys) → ((z : Item) → IsIn z xs → IsIn z ys) → ((z : Item) → IsIn z ys → IsIn z xs) → xs ≡ ys
same_lists [] [] first second into back = refl
same_lists [] (y ∷ ys) first second into back = absurd (back y (inl refl))
same_lists (x ∷ xs) [] first second into back = absurd (into x (inl refl))
same_lists (x ∷ xs) (y ∷ ys) first second into back =
    let same = heads x y xs ys first.0 second.0 (into x (inl refl)) (back y (inl refl)) in
    ap (λ (it : Item). it ∷ xs) same
    ∙ ap (λ (its : List Item). y ∷ its) (same_lists xs ys first.1 second.1 (later x y xs ys same first.0 into) (later y x ys xs (sym same) second.0 back))

-- ---- inventories

pub same_inventory : (items one other : List Item) → IsInventory items one → IsInventory items other → one ≡ other
same_inventory items one other is also =
    same_lists one other is.in_order also.in_order
    (λ z there. permuted items other also.same z (permuted one items (IsPermutation-sym items one is.same) z there))
    (λ z there. permuted items one is.same z (permuted other items (IsPermutation-sym items other also.same) z there))
