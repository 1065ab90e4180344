-- The first cell is that of the first element.
use Rattle.std.proofs.Common.{sym}
use Rattle.droid_pattern.proofs.FirstByteLemmas.{cells_begin}
use Rattle.droid_pattern.proofs.pattern.Pattern.first_bytes.Goals as goal

pub returns : goal.returns
returns c =
    cells_begin c.first_bytes.result c.as_slice.result.now c.in_ok-cell.cell.now c.deref.result.now c.args.self.now c.in_ok-cell.ensures.value
    (rw (c.as_slice.ensures.value, c.deref.ensures.value) (sym c.self.view_is)) c.first_bytes.ensures
