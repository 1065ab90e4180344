use Rattle.std.proofs.Common.{get_or, sym}
use Rattle.std.proofs.lemmas.Bool.{eq-eqb, ne_eqb}
use Rattle.droid_fixity.proofs.Unescaping.{meant_kept, opens_kept, plain_kept}
use Rattle.droid_fixity.proofs.checksum_lists.path_text.add_unescaped.Goals.{then-opened+in-Some+in_ok-push, else-opened+then-byte-eq92, else-opened+else-byte-eq92+in_ok-push-2}
use Rattle.droid_fixity.proofs.checksum_lists.path_text.add_unescaped.Goals as goal

pub loop-byte-preserved : goal.loop-byte-preserved
loop-byte-preserved c =
    let text = c.args.text.now in
    let front = c.loop-byte.path.items in
    let place = c.loop-byte.byte-index in
    let byte = get_or c.args.text.now c.loop-byte.byte-index 0 in
    elim c.if-opened.branch [
      | then-opened+in-Some+in_ok-push w ↦
          rw (w.path-is, w.opened-is) (meant_kept text front place c.loop-byte.opened _ c.loop-byte-test.true c.loop-byte.invariant w.push.new.self.items w.in-Some.meant w.if-opened.true (sym w.in-Some.ensures) w.in_ok-push.ensures.items)
      | else-opened+then-byte-eq92 w ↦
          rw (w.path-is, w.opened-is) (opens_kept text front place c.loop-byte.opened _ c.loop-byte-test.true c.loop-byte.invariant w.if-opened.false (eq-eqb byte 92 w.if-byte-eq92.true))
      | else-opened+else-byte-eq92+in_ok-push-2 w ↦
          rw (w.path-is, w.opened-is) (plain_kept text front place c.loop-byte.opened _ c.loop-byte-test.true c.loop-byte.invariant w.push-else-byte-eq92.new.self.items w.if-opened.false (ne_eqb byte 92 w.if-byte-eq92.false) w.in_ok-push-2.ensures.items)
    ]
