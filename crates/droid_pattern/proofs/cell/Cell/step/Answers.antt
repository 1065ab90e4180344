-- Each kind of element.
use Rattle.std.proofs.Common.{◌+◌, length, drop, arith}
use Rattle.std.proofs.lemmas.Result.{on_ok_weaker}
use Rattle.droid_pattern.specs.declared.class.Class.TheVariants as classes
use Rattle.droid_pattern.specs.Patterns.{Gap, OpenGap, AnyByte}
use Rattle.droid_pattern.specs.Cells.{number_of, front_number}
use Rattle.droid_pattern.proofs.StepLemmas.{one_reaches, gap_reaches, gap_leads, open_leads, any_leads}
use Rattle.droid_pattern.proofs.cell.Cell.step.Goals as goal

pub returns-in-Byte-clause-reaches : goal.returns-in-Byte-clause-reaches
returns-in-Byte-clause-reaches c =
    rw c.in-Byte.is (on_ok_weaker c.one.result (one_reaches c.args.direction (classes.Byte c.in-Byte.wanted) c.args.bytes.now c.args.bits.now c.one.new.bits) c.one.ensures.moved)

pub returns-in-Range-clause-reaches : goal.returns-in-Range-clause-reaches
returns-in-Range-clause-reaches c =
    rw c.in-Range.is (on_ok_weaker c.one-in-Range.result (one_reaches c.args.direction (classes.Range c.in-Range.low c.in-Range.high) c.args.bytes.now c.args.bits.now c.one-in-Range.new.bits) c.one-in-Range.ensures.moved)

pub returns-in-Except-clause-reaches : goal.returns-in-Except-clause-reaches
returns-in-Except-clause-reaches c =
    rw c.in-Except.is (on_ok_weaker c.one-in-Except.result (one_reaches c.args.direction (classes.Except c.in-Except.barred) c.args.bytes.now c.args.bits.now c.one-in-Except.new.bits) c.one-in-Except.ensures.moved)

pub returns-in-AnyByte-clause-reaches : goal.returns-in-AnyByte-clause-reaches
returns-in-AnyByte-clause-reaches c =
    let bytes = c.args.bytes.now in
    rw c.in-AnyByte.is (on_ok_weaker c.cross.result (gap_reaches c.args.direction AnyByte 1 (1 + 0) bytes c.args.bits.now c.cross.new.self (λ p q near inside. any_leads bytes p q near inside)) c.cross.ensures)

pub returns-in-OpenGap-clause-reaches : goal.returns-in-OpenGap-clause-reaches
returns-in-OpenGap-clause-reaches c =
    let bytes = c.args.bytes.now in
    let least = number_of c.in-OpenGap.least in
    rw c.in-OpenGap.is (on_ok_weaker c.cross-in-OpenGap.result (gap_reaches c.args.direction (OpenGap least) least (least + length bytes) bytes c.args.bits.now c.cross-in-OpenGap.new.self (open_leads least bytes)) (rw c.get.ensures.value at c.cross-in-OpenGap.ensures))

pub returns-in-Gap-clause-reaches : goal.returns-in-Gap-clause-reaches
returns-in-Gap-clause-reaches c =
    let bytes = c.args.bytes.now in
    let gap = drop (number_of c.in-Gap.at) c.args.pool.now in
    let least = front_number gap in
    let more = front_number (drop 2 gap) in
    rw c.in-Gap.is (on_ok_weaker c.cross-in-Gap.result (gap_reaches c.args.direction (Gap least (least + more)) least (least + more) bytes c.args.bits.now c.cross-in-Gap.new.self (λ p q near inside. gap_leads least (least + more) bytes p q near inside (omega arith))) (rw (c.front_number-least.ensures.value, c.front_number-more.ensures.value, c.rest_from.ensures, c.rest_from-gap.ensures, c.get-in-Gap.ensures.value) at c.cross-in-Gap.ensures))

pub returns-in-Stars-clause-reaches : goal.returns-in-Stars-clause-reaches
returns-in-Stars-clause-reaches c =
    let bytes = c.args.bytes.now in
    rw c.in-Stars.is (on_ok_weaker c.cross-in-Stars.result (gap_reaches c.args.direction (OpenGap 0) 0 (0 + length bytes) bytes c.args.bits.now c.cross-in-Stars.new.self (open_leads 0 bytes)) c.cross-in-Stars.ensures)
