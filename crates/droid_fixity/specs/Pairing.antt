-- For inner clauses and proofs: the merge of two inventories by path.
use Rattle.std.specs.Prelude.{◌≡◌, ℕ, ◌+◌, List, [], ◌∷◌, Option, Some, None}
use Rattle.std.specs.Ordering.{nat_cmp}
use Rattle.std.specs.Cmp.Lexicographic.{slice_cmp}
use Rattle.std.specs.declared.cmp.Ordering.{Ordering}
use Rattle.std.specs.declared.cmp.Ordering.TheVariants.{Less, Equal, Greater}
use Rattle.droid_frame.specs.declared.item.Item.{Item}
use Rattle.droid_fixity.specs.declared.pair.Pair.{Pair}
use Rattle.droid_fixity.specs.declared.pair.Pair.TheVariants.{Both, Listed, Found}

-- the pair by the order of two paths
abbrev pub pair_by : Ordering → ℕ → ℕ → Pair
pair_by Less l f = Listed l
pair_by Equal l f = Both l f
pair_by Greater l f = Found f

-- the pair of the items that come next
abbrev pub pair_of : Option Item → Option Item → ℕ → ℕ → Option Pair
pair_of None None l f = None
pair_of (Some a) None l f = Some (Listed l)
pair_of None (Some b) l f = Some (Found f)
pair_of (Some a) (Some b) l f = Some (pair_by (slice_cmp nat_cmp a.path b.path) l f)

-- the place in the list after a pair
abbrev pub listed_after : Pair → ℕ → ℕ
listed_after (Both l f) at = at + 1
listed_after (Listed l) at = at + 1
listed_after (Found f) at = at

-- the place among the items found after a pair
abbrev pub found_after : Pair → ℕ → ℕ
found_after (Both l f) at = at + 1
found_after (Listed l) at = at
found_after (Found f) at = at + 1

-- the pairs of the items from these places on
pub data Merges : ℕ → ℕ → List Item → List Item → List Pair → Type 0 where
  ends : {l f : ℕ} → Merges l f [] [] []
  both : {l f : ℕ} {a b : Item} {xs ys : List Item} {pairs : List Pair} → slice_cmp nat_cmp a.path b.path ≡ Equal
      → Merges (l + 1) (f + 1) xs ys pairs → Merges l f (a ∷ xs) (b ∷ ys) (Both l f ∷ pairs)
  listed : {l f : ℕ} {a b : Item} {xs ys : List Item} {pairs : List Pair} → slice_cmp nat_cmp a.path b.path ≡ Less
      → Merges (l + 1) f xs (b ∷ ys) pairs → Merges l f (a ∷ xs) (b ∷ ys) (Listed l ∷ pairs)
  found : {l f : ℕ} {a b : Item} {xs ys : List Item} {pairs : List Pair} → slice_cmp nat_cmp a.path b.path ≡ Greater
      → Merges l (f + 1) (a ∷ xs) ys pairs → Merges l f (a ∷ xs) (b ∷ ys) (Found f ∷ pairs)
  last_listed : {l f : ℕ} {a : Item} {xs : List Item} {pairs : List Pair}
      → Merges (l + 1) f xs [] pairs → Merges l f (a ∷ xs) [] (Listed l ∷ pairs)
  last_found : {l f : ℕ} {b : Item} {ys : List Item} {pairs : List Pair}
      → Merges l (f + 1) [] ys pairs → Merges l f [] (b ∷ ys) (Found f ∷ pairs)
