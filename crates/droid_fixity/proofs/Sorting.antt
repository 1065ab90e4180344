-- Items that were sorted by path: they are in order, or two of them have one path.
use Rattle.std.proofs.Common.{◌≡◌, ◌∙◌, ℕ, zero, suc, ◌+◌, ◌-◌, ◌<◌, Bool, true, false, List, [], ◌∷◌, cond, get_or, length, map, Some, refl, sym, ap, subst, arith}
use Rattle.std.specs.Cmp.Lexicographic.{slice_cmp}
use Rattle.std.specs.List.{count_by, slice_get}
use Rattle.std.specs.List.Sorted.{IsPermutation, IsSortedBy}
use Rattle.std.specs.Ordering.{is_lt, nat_cmp}
use Rattle.std.specs.Str.{bytes_eq}
use Rattle.std.specs.declared.cmp.Ordering.{Ordering}
use Rattle.std.specs.declared.cmp.Ordering.TheVariants.{Less, Equal, Greater}
use Rattle.std.proofs.lemmas.List.Sorted.{sum_by-IsPermutation}
use Rattle.std.proofs.lemmas.List.Sums.{count_by_more_yes, sum_by-take-le}
use Rattle.std.proofs.lemmas.Option.{slice_get-get_or}
use Rattle.std.proofs.lemmas.Slice.Eq.{bytes_eq-Decides}
use Rattle.droid_fixity.specs.Inventories.{AreInOrder, IsBefore, IsBeforeAt, IsTwice, is_before}
use Rattle.droid_frame.specs.declared.item.Item.{Item}
use Rattle.droid_fixity.proofs.Order.{after_is_before, before_all, equal_paths}

less_is : (o : Ordering) → is_lt o ≡ true → o ≡ Less
less_is Less less = refl
less_is Equal less = cc
less_is Greater less = cc

-- the same of the items after the first
order_later : (item : Item) (items : List Item) → ((place : ℕ) → 0 < place → place < length (item ∷ items) → IsBeforeAt (item ∷ items) place true)
    → (place : ℕ) → 0 < place → place < length items → IsBeforeAt items place true
order_later item items each zero above below = λ first second here there. absurd (omega (arith, above))
order_later item items each (suc place) above below = λ first second here there.
    let back : suc place - 1 ≡ place = omega arith in
    let next : suc (suc place) - 1 ≡ suc place = omega arith in
    let lies : slice_get items place ≡ Some first = ap (λ (n : ℕ). slice_get items n) (sym back) ∙ here in
    each (suc (suc place)) (omega arith) (omega (arith, below)) first second (ap (λ (n : ℕ). slice_get (item ∷ items) n) next ∙ lies) there

pub in_order_from : (items : List Item) → ((place : ℕ) → 0 < place → place < length items → IsBeforeAt items place true) → AreInOrder (map (λ item. item.path) items)
in_order_from [] each = tt
in_order_from (item ∷ []) each = (tt, tt)
in_order_from (item ∷ next ∷ items) each =
    let first : IsBefore item.path next.path = less_is (slice_cmp nat_cmp item.path next.path) (each 1 (omega arith) (omega arith) item next refl refl) in
    let rest = in_order_from (next ∷ items) (order_later item (next ∷ items) each) in
    ((first, before_all item.path next.path items first rest.0), rest)

-- two paths of which neither comes before the other
neither_by : (a b : List ℕ) (o : Ordering) → slice_cmp nat_cmp a b ≡ o → is_before a b ≡ false → is_before b a ≡ false → a ≡ b
neither_by a b Less is one other = let bad : true ≡ false = sym (ap is_lt is) ∙ one in cc
neither_by a b Equal is one other = equal_paths a b is
neither_by a b Greater is one other = let bad : true ≡ false = sym (ap is_lt (after_is_before a b is)) ∙ other in cc

neither_before : (a b : List ℕ) → is_before a b ≡ false → is_before b a ≡ false → a ≡ b
neither_before a b one other = neither_by a b (slice_cmp nat_cmp a b) refl one other

two_counted : (test : Item → Bool) (items : List Item) (k : ℕ) (d : Item) → k + 1 < length items → test (get_or items k d) ≡ true → test (get_or items (k + 1) d) ≡ true → 1 < count_by test items
two_counted test items k d below one two =
    let first = count_by_more_yes test items k d (omega (arith, below)) one in
    let second = count_by_more_yes test items (k + 1) d below two in
    let most = sum_by-take-le (λ item. cond (test item) 1 0) items (k + 1 + 1) in
    omega (arith, first, second, most)

-- an item that does not come after the one in front of it has its path
pub twice_from : (before after : List Item) (place : ℕ) (item : Item) → IsPermutation before after → IsSortedBy (λ a b. is_before a.path b.path) after
    → 0 < place → place < length after → IsBeforeAt after place false → item ≡ get_or after place item → IsTwice before item.path
twice_from before after place item permuted sorted above below test is =
    let back : place - 1 + 1 ≡ place = omega (arith, above) in
    let there : slice_get after (place - 1) ≡ Some (get_or after (place - 1) item) = slice_get-get_or after (place - 1) item (omega (arith, below)) in
    let here : slice_get after place ≡ Some item = slice_get-get_or after place item below ∙ ap Some (sym is) in
    let one : is_before (get_or after (place - 1) item).path item.path ≡ false = test (get_or after (place - 1) item) item there here in
    let next : get_or after (place - 1 + 1) item ≡ item = ap (λ (n : ℕ). get_or after n item) back ∙ sym is in
    let up : is_before (get_or after (place - 1 + 1) item).path (get_or after (place - 1) item).path ≡ false = sorted (place - 1) item (omega arith) (omega (arith, above, below)) in
    let other : is_before item.path (get_or after (place - 1) item).path ≡ false = ap (λ (x : Item). is_before x.path (get_or after (place - 1) item).path) (sym next) ∙ up in
    let same : (get_or after (place - 1) item).path ≡ item.path = neither_before (get_or after (place - 1) item).path item.path one other in
    let first : bytes_eq item.path (get_or after (place - 1) item).path ≡ true = (bytes_eq-Decides item.path (get_or after (place - 1) item).path).1 (sym same) in
    let second : bytes_eq item.path (get_or after (place - 1 + 1) item).path ≡ true = (bytes_eq-Decides item.path (get_or after (place - 1 + 1) item).path).1 (ap (λ (x : Item). x.path) (sym next)) in
    subst (λ (n : ℕ). 1 < n) (sum_by-IsPermutation (λ x. cond (bytes_eq item.path x.path) 1 0) before after permuted)
    (two_counted (λ x. bytes_eq item.path x.path) after (place - 1) item (omega (arith, above, below)) first second)
