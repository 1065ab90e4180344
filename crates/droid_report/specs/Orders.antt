-- The groups of a report in the orders of its page.
use Rattle.std.specs.Prelude.{◌≡◌, ℕ, List, map, String}
use Rattle.std.specs.BTreeMap.{BTreeMap}
use Rattle.std.specs.declared.alloc.Global.{Global}
use Rattle.droid_report.specs.Ranks.{AreRanked, by_bytes, by_count, by_saved, group_seen, groups_in}
use Rattle.droid_report.specs.declared.counts.Counts.{Counts}
use Rattle.droid_report.specs.declared.groups.GroupSum.{GroupSum}
use Rattle.droid_report.specs.declared.ranks.Group.{Group}
use Rattle.droid_report.specs.declared.view.orders.Orders.{Orders}

-- exactly the groups of at least this many rows, those with the least key first
pub record IsOrder (key : Group → ℕ) (least : ℕ) (groups : BTreeMap (String Global) GroupSum) (ranked : List Group)
    : Type 0 where
  pub listed : List Group
  pub all : map group_seen listed ≡ groups_in least groups.entries
  pub order : AreRanked key listed ranked

-- the orders of a page: formats by files and by bytes, and contents of two files or more by what their copies take
pub record AreOrders (counts : Counts) (orders : Orders) : Type 0 where
  pub files : IsOrder by_count 1 counts.formats orders.by_count.items
  pub bytes : IsOrder by_bytes 1 counts.formats orders.by_bytes.items
  pub saved : IsOrder by_saved 2 counts.contents orders.copies.items
