-- One byte of a class.
use Rattle.droid_pattern.specs.declared.class.Class.TheVariants as classes
use Rattle.droid_pattern.proofs.HeadLemmas.{class_before}
use Rattle.droid_pattern.proofs.cell.Cell.passes_before.Goals as goal

pub returns-in-Byte-clause-leads : goal.returns-in-Byte-clause-leads
returns-in-Byte-clause-leads c = rw c.in-Byte.is (λ pool. class_before (classes.Byte c.in-Byte.wanted) c.args.bytes.now c.args.end c.is_before.result c.requires c.is_before.ensures)

pub returns-in-Range-clause-leads : goal.returns-in-Range-clause-leads
returns-in-Range-clause-leads c = rw c.in-Range.is (λ pool. class_before (classes.Range c.in-Range.low c.in-Range.high) c.args.bytes.now c.args.end c.is_before-in-Range.result c.requires c.is_before-in-Range.ensures)

pub returns-in-Except-clause-leads : goal.returns-in-Except-clause-leads
returns-in-Except-clause-leads c = rw c.in-Except.is (λ pool. class_before (classes.Except c.in-Except.barred) c.args.bytes.now c.args.end c.is_before-in-Except.result c.requires c.is_before-in-Except.ensures)
