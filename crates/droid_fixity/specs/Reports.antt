-- The report: which differences there are between the items of a list and those that were found.
use Rattle.std.specs.Prelude.{◌≡◌, ℕ, Bool, false, not, List, [], ◌∷◌, Some, filter, map, slice_get, Contains, IsTrue}
use Rattle.std.specs.List.{AllByRecursion, list_any}
use Rattle.std.specs.Option.{option_map_or}
use Rattle.std.specs.Str.{bytes_eq}
use Rattle.droid_frame.specs.Hashes.{hash_bytes}
use Rattle.droid_fixity.specs.Inventories.{AreInOrder}
use Rattle.droid_frame.specs.Items.{bears, changes_between, is_any, other_length, other_moment}
use Rattle.droid_fixity.specs.declared.difference.Difference.{Difference}
use Rattle.droid_fixity.specs.declared.difference.Difference.TheVariants.{Changed, Missing, New, Moved, Touched}
use Rattle.droid_frame.specs.declared.item.Item.{Item}

-- whether no item has this path
abbrev pub is_absent : List ℕ → List Item → Bool
is_absent path items = not (list_any (λ item. bytes_eq path item.path) items)

-- the items whose path the other list does not have
abbrev pub alone : List Item → List Item → List Item
alone items others = filter (λ item. is_absent item.path others) items

-- One missing file is one new file under another path: no other missing file and no other new file has its hash, and
-- their lengths do not differ.
pub record HasMoved (listed found : List Item) (a b : Item) : Type 0 where
  pub missing : filter (bears (hash_bytes a.hash)) (alone listed found) ≡ a ∷ []
  pub new : filter (bears (hash_bytes a.hash)) (alone found listed) ≡ b ∷ []
  pub lengths : other_length a.length b.length ≡ false

-- what is a difference; items are named by their places in the lists
pub data IsDifference (listed found : List Item) : Difference → Type 0 where
  -- a path that both have, with another kind, length or hash
  changed : {l f : ℕ} {a b : Item} → slice_get listed l ≡ Some a → slice_get found f ≡ Some b → a.path ≡ b.path
      → IsTrue (is_any (changes_between a b)) → IsDifference listed found (Changed l f (changes_between a b))
  -- a path that both have, of which only the moment differs
  touched : {l f : ℕ} {a b : Item} → slice_get listed l ≡ Some a → slice_get found f ≡ Some b → a.path ≡ b.path
      → is_any (changes_between a b) ≡ false → IsTrue (other_moment a.modified b.modified)
      → IsDifference listed found (Touched l f)
  -- a path that was not found, and did not move
  missing : {l : ℕ} {a : Item} → slice_get listed l ≡ Some a → IsTrue (is_absent a.path found)
      → ((b : Item) → HasMoved listed found a b → ⊥) → IsDifference listed found (Missing l)
  -- a path that the list does not have, and that did not come by a move
  new : {f : ℕ} {b : Item} → slice_get found f ≡ Some b → IsTrue (is_absent b.path listed)
      → ((a : Item) → HasMoved listed found a b → ⊥) → IsDifference listed found (New f)
  moved : {l f : ℕ} {a b : Item} → slice_get listed l ≡ Some a → slice_get found f ≡ Some b
      → HasMoved listed found a b → IsDifference listed found (Moved l f)

-- the path of the item at this place
abbrev pub path_at : List Item → ℕ → List ℕ
path_at items place = option_map_or (λ item. item.path) (slice_get items place) []

-- the path by which a difference is sorted: that of the list, if the list has it
abbrev pub path_of : List Item → List Item → Difference → List ℕ
path_of listed found (Changed l f changes) = path_at listed l
path_of listed found (Touched l f) = path_at listed l
path_of listed found (Missing l) = path_at listed l
path_of listed found (New f) = path_at found f
path_of listed found (Moved l f) = path_at listed l

-- the report: exactly the differences, in the order of their paths, so each once
pub record IsReport (listed found : List Item) (report : List Difference) : Type 0 where
  pub right : AllByRecursion (IsDifference listed found) report
  pub whole : (difference : Difference) → IsDifference listed found difference → Contains report difference
  pub in_order : AreInOrder (map (path_of listed found) report)
