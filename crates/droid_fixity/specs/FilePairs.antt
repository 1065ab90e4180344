-- The files that a list and the items found have under one path, by their places (this project's own).
use Rattle.std.specs.Prelude.{◌≡◌, ℕ, ◌&&◌, List, Some, map, slice_get, Contains, IsTrue}
use Rattle.std.specs.List.{AllByRecursion}
use Rattle.droid_fixity.specs.Inventories.{AreInOrder}
use Rattle.droid_frame.specs.Filters.{is_file}
use Rattle.droid_fixity.specs.Reports.{path_at}
use Rattle.droid_frame.specs.declared.item.Item.{Item}
use Rattle.droid_fixity.specs.declared.pair.FilePair.{FilePair}

-- a file of both: one path, and both are files
pub record IsFilePair (listed found : List Item) (pair : FilePair) : Type 0 where
  pub a : Item
  pub b : Item
  pub here : slice_get listed pair.listed ≡ Some a
  pub there : slice_get found pair.found ≡ Some b
  pub same : a.path ≡ b.path
  pub files : IsTrue (is_file a.kind && is_file b.kind)

-- exactly these, in the order of their paths, so each once
pub record AreFilePairs (listed found : List Item) (pairs : List FilePair) : Type 0 where
  pub right : AllByRecursion (IsFilePair listed found) pairs
  pub whole : (pair : FilePair) → IsFilePair listed found pair → Contains pairs pair
  pub in_order : AreInOrder (map (λ pair. path_at listed pair.listed) pairs)
