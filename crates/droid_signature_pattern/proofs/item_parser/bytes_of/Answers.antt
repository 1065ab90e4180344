-- One more byte, and where none is.
use Rattle.std.proofs.Common.{arith}
use Rattle.droid_pattern.proofs.TextLemmas.{two_and_rest, is_none, is_some_list, bytes_more, bytes_bad, bytes_odd, bytes_none, bytes_end}
use Rattle.droid_signature_pattern.proofs.item_parser.bytes_of.Goals as goal

pub returns-then-is_empty-clause-bad : goal.returns-then-is_empty-clause-bad
returns-then-is_empty-clause-bad c = λ _. bytes_none c.args.digits.now (is_none c.args.digits.now c.if-is_empty.ensures)

pub returns-in_err-byte-clause-bad : goal.returns-in_err-byte-clause-bad
returns-in_err-byte-clause-bad c = λ _. bytes_bad c.args.digits.now c.loop-rest.bytes.items c.loop-rest.rest.now _ _ _ (two_and_rest c.loop-rest.rest.now (omega arith))
    (rw c.in_err-byte.ensures.ok_part at c.byte_of.ensures) c.loop-rest.invariant

pub loop-rest-preserved : goal.loop-rest-preserved
loop-rest-preserved c = bytes_more c.args.digits.now c.loop-rest.bytes.items c.loop-rest.rest.now _ c.push.new.self.items _ _ c.in_ok-byte.byte (two_and_rest c.loop-rest.rest.now (omega arith))
    (rw c.in_ok-byte.ensures.ok_part at c.byte_of.ensures) c.in_ok-push.ensures.items c.loop-rest.invariant

pub returns-then-not-is_empty-clause-bad : goal.returns-then-not-is_empty-clause-bad
returns-then-not-is_empty-clause-bad c = λ _. bytes_odd c.args.digits.now c.loop-rest.bytes.items c.loop-rest.rest.now (omega arith) (is_some_list c.loop-rest.rest.now c.if-not-is_empty.ensures) c.loop-rest.invariant

pub returns-clause-spelled : goal.returns-clause-spelled
returns-clause-spelled c = bytes_end c.args.digits.now c.loop-rest.bytes.items c.loop-rest.rest.now (is_some_list c.args.digits.now c.if-is_empty.ensures) (is_none c.loop-rest.rest.now c.if-not-is_empty.ensures) c.loop-rest.invariant
