use Rattle.std.proofs.Common.{◌≡◌, ◌++◌, take}
use Rattle.std.specs.List.{flat_map}
use Rattle.droid_export.specs.Rows.{header}
use Rattle.droid_export.specs.Text.{piece}
use Rattle.droid_export.proofs.rows.add_names.Given as goal

-- the first columns were written
abbrev pub invariant-loop-column : goal.invariant-loop-column
invariant-loop-column l = l.text.items ≡ l.fn.text.items ++ flat_map (piece (header l.hash)) (take l.column-index l.columns)
