use Rattle.std.proofs.Common.{◌≡◌, ◌++◌, take}
use Rattle.std.specs.List.{flat_map}
use Rattle.droid_export.specs.Rows.{row, shown}
use Rattle.droid_export.specs.Text.{row_text}
use Rattle.droid_export.proofs.rows.add_format_rows.Given as goal

-- the rows of the first formats were written
abbrev pub invariant-loop-place : goal.invariant-loop-place
invariant-loop-place l = l.text.items ≡ l.fn.text.items ++ flat_map (λ puid. row_text (row l.node (shown l.registry puid))) (take l.place l.node.puids)
