-- Items that are compared with themselves.
use Rattle.std.proofs.Common.{◌≡◌, ◌∙◌, ℕ, ◌==◌, Bool, true, false, not, ◌&&◌, ◌||◌, List, [], ◌∷◌, map, Option, Some, None, eq-eqb, refl, sym, ap, subst}
use Rattle.std.specs.List.{slice_get}
use Rattle.std.specs.Str.{bytes_eq}
use Rattle.std.proofs.lemmas.Slice.Eq.{bytes_eq-Decides}
use Rattle.droid_frame.specs.Hashes.{hash_bytes, hash_kind_number, hash_value_kind}
use Rattle.droid_frame.specs.declared.hash_value.HashValue.{HashValue}
use Rattle.droid_fixity.specs.Inventories.{AreInOrder}
use Rattle.droid_frame.specs.Items.{changes_between, is_any, other_hash, other_length, other_moment, same_truth}
use Rattle.droid_frame.specs.Filters.{is_file}
use Rattle.droid_fixity.specs.Reports.{IsDifference, IsReport, changed, missing, moved, new, touched}
use Rattle.droid_fixity.specs.declared.difference.Difference.{Difference}
use Rattle.droid_frame.specs.declared.item.Item.{Item}
use Rattle.droid_fixity.proofs.Order.{absent_there, same_place}
use Rattle.droid_fixity.proofs.Whole.{was_missing}

bytes_self : (bytes : List ℕ) → bytes_eq bytes bytes ≡ true
bytes_self bytes = (bytes_eq-Decides bytes bytes).1 refl

truth_self : (test : Bool) → not (same_truth test test) ≡ false
truth_self true = refl
truth_self false = refl

length_self : (length : Option ℕ) → other_length length length ≡ false
length_self None = refl
length_self (Some n) = ap not (eq-eqb n n refl)

moment_self : (moment : Option (List ℕ)) → other_moment moment moment ≡ false
moment_self None = refl
moment_self (Some bytes) = ap not (bytes_self bytes)

and_false : (test : Bool) → (test && false) ≡ false
and_false true = refl
and_false false = refl

hash_self : (hash : HashValue) → other_hash hash hash ≡ false
hash_self hash =
    ap (λ (t : Bool). (hash_kind_number (hash_value_kind hash) == hash_kind_number (hash_value_kind hash)) && not t) (bytes_self (hash_bytes hash))
    ∙ and_false (hash_kind_number (hash_value_kind hash) == hash_kind_number (hash_value_kind hash))

three_false : (x y z : Bool) → x ≡ false → y ≡ false → z ≡ false → (x || y || z) ≡ false
three_false false false false a b c = refl
three_false false false true a b c = cc
three_false false true z a b c = cc
three_false true y z a b c = cc

changes_self : (item : Item) → is_any (changes_between item item) ≡ false
changes_self item =
    three_false (not (same_truth (is_file item.kind) (is_file item.kind))) (other_length item.length item.length) (other_hash item.hash item.hash)
    (truth_self (is_file item.kind)) (length_self item.length) (hash_self item.hash)

-- one path, one item
one_item : (items : List Item) (l f : ℕ) (a b : Item) → AreInOrder (map (λ item. item.path) items) → slice_get items l ≡ Some a → slice_get items f ≡ Some b → a.path ≡ b.path → a ≡ b
one_item items l f a b in_order here there same =
    let place : l ≡ f = same_place items l f a b in_order here there same in
    let again : slice_get items f ≡ Some a = subst (λ (n : ℕ). slice_get items n ≡ Some a) place here in
    cc

none_differs : (items : List Item) (d : Difference) → AreInOrder (map (λ item. item.path) items) → IsDifference items items d → ⊥
none_differs items d in_order (changed {l = l} {f = f} {a = a} {b = b} here there same any) =
    let item : a ≡ b = one_item items l f a b in_order here there same in
    let bad : true ≡ false = sym any ∙ (ap (λ (x : Item). is_any (changes_between a x)) (sym item) ∙ changes_self a) in
    cc
none_differs items d in_order (touched {l = l} {f = f} {a = a} {b = b} here there same any moment) =
    let item : a ≡ b = one_item items l f a b in_order here there same in
    let bad : true ≡ false = sym moment ∙ (ap (λ (x : Item). other_moment a.modified x.modified) (sym item) ∙ moment_self a.modified) in
    cc
none_differs items d in_order (missing {l = l} {a = a} here absent never) =
    let bad : true ≡ false = sym absent ∙ absent_there a.path items l a here refl in
    cc
none_differs items d in_order (new {f = f} {b = b} there absent never) =
    let bad : true ≡ false = sym absent ∙ absent_there b.path items f b there refl in
    cc
none_differs items d in_order (moved {l = l} {a = a} {b = b} here there move) =
    let bad : true ≡ false = sym (was_missing items items a b move).1 ∙ absent_there a.path items l a here refl in
    cc

pub empty_report : (items : List Item) (report : List Difference) → AreInOrder (map (λ item. item.path) items) → IsReport items items report → report ≡ []
empty_report items [] in_order is = refl
empty_report items (d ∷ report) in_order is = absurd (none_differs items d in_order is.right.0)
