use Rattle.std.proofs.Common.{map}
use Rattle.droid_export.specs.Rows.{fields}
use Rattle.droid_export.specs.Text.{shown_rows}
use Rattle.droid_lists.proofs.ExportedItems.{export_read}
use Rattle.droid_lists.proofs.export_law.export_lists_its_records.Goals as goal

pub returns : goal.returns
returns c = λ registry criteria hash nodes are.
    (map fields (shown_rows registry criteria hash nodes), c.text_is_read_back.ensures registry criteria hash nodes, export_read registry criteria hash nodes are)
