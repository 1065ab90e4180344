-- Which rows pass the test of a search.
use Rattle.std.specs.Prelude.{Bool, not}
use Rattle.std.specs.Ordering.{is_lt, is_gt}
use Rattle.sqlite_value.specs.Value.{owned}
use Rattle.sqlite_value.specs.Order.{Row, value_cmp}
use Rattle.sqlite_value.specs.Keys.{entry_cmp, prefix_cmp}
use Rattle.sqlite_trees.specs.Tree.{rowid}
use Rattle.droid_store_trees.specs.declared.probe.Probe.{Probe}
use Rattle.droid_store_trees.specs.declared.probe.Probe.TheVariants.{BelowKey, UpToKey, BelowRowid, BelowEntry}

-- whether a row passes the test
abbrev pub passes : Probe → Row → Bool
passes (BelowKey order key) row = is_lt (prefix_cmp order row key.now)
passes (UpToKey order key) row = not (is_gt (prefix_cmp order row key.now))
passes (BelowRowid id) row = is_lt (value_cmp (rowid row) (owned id))
passes (BelowEntry order other) row = is_lt (entry_cmp order row other.now)
