-- One byte of a class, and a choice that fails.
use Rattle.std.proofs.lemmas.Bool.{false≢true}
use Rattle.droid_pattern.specs.declared.class.Class.TheVariants as classes
use Rattle.droid_pattern.proofs.HeadLemmas.{class_at}
use Rattle.droid_pattern.proofs.cell.Cell.passes.Goals as goal

pub returns-in-Byte : goal.returns-in-Byte
returns-in-Byte c = rw c.in-Byte.is (class_at (classes.Byte c.in-Byte.wanted) c.args.bytes.now c.args.place c.is_at.result c.is_at.ensures)

pub returns-in-Range : goal.returns-in-Range
returns-in-Range c = rw c.in-Range.is (class_at (classes.Range c.in-Range.low c.in-Range.high) c.args.bytes.now c.args.place c.is_at-in-Range.result c.is_at-in-Range.ensures)

pub returns-in-Except : goal.returns-in-Except
returns-in-Except c = rw c.in-Except.is (class_at (classes.Except c.in-Except.barred) c.args.bytes.now c.args.place c.is_at-in-Except.result c.is_at-in-Except.ensures)

-- no alternative of a choice stands there
pub returns-then-fails : goal.returns-then-fails
returns-then-fails c =
    let nowhere = rw (c.rest_from-packed.ensures, c.get.ensures.value) at (c.none_stands-fails.ensures c.if-fails.true) in
    rw c.in-Choice.is (λ q. (λ h. absurd (nowhere q h), λ h. absurd (false≢true h.0)))
