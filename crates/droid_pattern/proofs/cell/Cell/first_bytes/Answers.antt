-- A byte of a range.
use Rattle.droid_pattern.proofs.FirstByteLemmas.{range_begins}
use Rattle.droid_pattern.proofs.cell.Cell.first_bytes.Goals as goal

pub returns-in-Range : goal.returns-in-Range
returns-in-Range c = rw c.in-Range.is (range_begins c.range-in-Range.result c.in-Range.low c.in-Range.high c.range-in-Range.ensures)
