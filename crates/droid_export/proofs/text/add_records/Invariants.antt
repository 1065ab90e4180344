use Rattle.std.proofs.Common.{◌≡◌, ◌++◌, take}
use Rattle.std.specs.List.{flat_map}
use Rattle.droid_export.specs.Text.{chosen_rows, row_text}
use Rattle.droid_export.proofs.text.add_records.Given as goal

-- the rows of the first records were added
abbrev pub invariant-loop-node : goal.invariant-loop-node
invariant-loop-node l = l.rows ≡ l.fn.rows ++ flat_map row_text (chosen_rows l.registry l.filter (take l.node-index l.records))
