-- When a list and a tree agree (this project's own).
use Rattle.std.specs.Prelude.{◌≡◌, ◌==◌, ℕ, true, not, List, Some, slice_get, IsTrue}
use Rattle.std.specs.List.{AllByRecursion}
use Rattle.droid_frame.specs.Hashes.{hash_bytes, hash_kind_number, hash_value_kind}
use Rattle.droid_frame.specs.declared.record.Record.{Record}
use Rattle.droid_frame.specs.Items.{both_hashed}
use Rattle.droid_frame.specs.Filters.{is_file}
use Rattle.droid_frame.specs.declared.item.Item.{Item}

-- two items of one path are the same: both are folders, or both are files of one hash, which both have
pub record AreSame (a b : Item) : Type 0 where
  pub path : a.path ≡ b.path
  pub kind : is_file a.kind ≡ is_file b.kind
  pub hashed : is_file a.kind ≡ true → both_hashed a b ≡ true
  pub hash : is_file a.kind ≡ true → hash_bytes a.hash ≡ hash_bytes b.hash

-- each item of the list was found
abbrev pub EachListedIsSame : List Item → List Item → Type 0
EachListedIsSame listed found =
    (l : ℕ) (a : Item) → slice_get listed l ≡ Some a → (f : ℕ) × (b : Item) × (slice_get found f ≡ Some b) × AreSame a b

-- each item that was found is in the list
abbrev pub EachFoundIsSame : List Item → List Item → Type 0
EachFoundIsSame listed found =
    (f : ℕ) (b : Item) → slice_get found f ≡ Some b → (l : ℕ) × (a : Item) × (slice_get listed l ≡ Some a) × AreSame a b

-- a list and a tree agree
pub record Agree (listed found : List Item) : Type 0 where
  pub each_listed : EachListedIsSame listed found
  pub each_found : EachFoundIsSame listed found

-- a file has a hash
abbrev pub HasHash : Record → Type 0
HasHash node = is_file node.kind ≡ true → IsTrue (not (hash_kind_number (hash_value_kind node.hash) == 0))

-- each file of these records has a hash
abbrev pub HaveHashes : List Record → Type 0
HaveHashes nodes = AllByRecursion HasHash nodes
