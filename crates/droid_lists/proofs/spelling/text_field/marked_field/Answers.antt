use Rattle.std.proofs.Common.{refl, arith}
use Rattle.droid_lists.proofs.PlainFields.{first_quote, mark_behind_quote, none_left, other_behind_quote, plain_byte, rest_all, second_quote}
use Rattle.droid_lists.proofs.spelling.text_field.marked_field.Goals as goal
use Rattle.droid_lists.proofs.spelling.text_field.marked_field.Goals.{then-quote+then-byte-eq34+in_ok-push, else-quote+then-byte-eq34-2, else-quote+else-byte-eq34-2+in_ok-push-2}

pub loop-place-preserved : goal.loop-place-preserved
loop-place-preserved c =
    elim c.if-quote.branch [
      | then-quote+then-byte-eq34+in_ok-push w ↦
          second_quote c.args.mark c.args.text.now c.loop-place.value.items c.if-quote.value.items c.loop-place.quote c.if-quote.quote c.loop-place.place
          (omega (arith, c.loop-place-test.true)) c.loop-place.invariant w.if-quote.true w.if-byte-eq34.true (rw w.value-is w.in_ok-push.ensures.items) w.quote-is
      | else-quote+then-byte-eq34-2 w ↦
          first_quote c.args.mark c.args.text.now c.loop-place.value.items c.if-quote.value.items c.loop-place.quote c.if-quote.quote c.loop-place.place
          (omega (arith, c.loop-place-test.true)) c.loop-place.invariant w.if-quote.false w.if-byte-eq34-2.true (rw w.value-is refl) w.quote-is
      | else-quote+else-byte-eq34-2+in_ok-push-2 w ↦
          plain_byte c.args.mark c.args.text.now c.loop-place.value.items c.if-quote.value.items c.loop-place.quote c.if-quote.quote c.loop-place.place
          (omega (arith, c.loop-place-test.true)) c.loop-place.invariant w.if-quote.false w.if-byte-eq34-2.false (rw w.value-is w.in_ok-push-2.ensures.items) w.quote-is
    ]

pub returns-then-byte-mark : goal.returns-then-byte-mark
returns-then-byte-mark c =
    mark_behind_quote c.args.mark c.args.text.now c.loop-place.value.items _ c.loop-place.quote c.loop-place.place
    (omega (arith, c.loop-place-test.true)) c.loop-place.invariant c.if-quote.true c.if-byte-eq34.false c.if-byte-mark.true (rest_all c.args.text.now _)

pub returns-else-byte-mark : goal.returns-else-byte-mark
returns-else-byte-mark c =
    other_behind_quote c.args.mark c.args.text.now c.loop-place.value.items c.loop-place.quote c.loop-place.place
    (omega (arith, c.loop-place-test.true)) c.loop-place.invariant c.if-quote.true c.if-byte-eq34.false c.if-byte-mark.false

pub returns : goal.returns
returns c =
    none_left c.args.mark c.args.text.now c.loop-place.value.items c.loop-place.quote c.loop-place.place (omega (arith, c.loop-place-test.false)) c.loop-place.invariant
