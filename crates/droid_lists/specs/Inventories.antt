-- The inventory of items.
use Rattle.std.specs.Prelude.{List, IsPermutation, map}
use Rattle.droid_fixity.specs.Inventories.{AreInOrder}
use Rattle.droid_frame.specs.declared.item.Item.{Item}

-- these items, no path twice, in the order of their paths
pub record IsInventory (items inventory : List Item) : Type 0 where
  pub same : IsPermutation items inventory
  pub in_order : AreInOrder (map (λ item. item.path) inventory)
