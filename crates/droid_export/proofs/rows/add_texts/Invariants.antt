use Rattle.std.proofs.Common.{◌≡◌, ◌++◌, take}
use Rattle.std.specs.List.{flat_map}
use Rattle.droid_export.specs.Columns.{row_of}
use Rattle.droid_export.specs.Text.{piece}
use Rattle.droid_export.proofs.rows.add_texts.Given as goal

-- the first columns were written
abbrev pub invariant-loop-column : goal.invariant-loop-column
invariant-loop-column l = l.text.items ≡ l.fn.text.items ++ flat_map (piece (row_of l.parts)) (take l.column-index l.columns)
