-- More bytes than are left, and a text that fits.
use Rattle.std.proofs.Common.{◌+◌, ◌<◌, length, refl, ap, arith}
use Rattle.droid_signature_pattern.specs.Texts.{total}
use Rattle.droid_signature_pattern.proofs.Totals.{total_more, total_take}
use Rattle.droid_signature_pattern.proofs.pattern_texts.are_long.Goals as goal

pub returns-then-len-left : goal.returns-then-len-left
returns-then-len-left c =
    let texts = c.args.texts.now in
    let i = c.loop-text.text-index in
    let more = total_more texts i c.text-item.result (omega arith) c.text-item.is in
    let most = total_take texts (i + 1) in
    let same = ap length c.as_slice-len.ensures in
    let big : 16384 < total texts = omega (arith, more, most, same, c.loop-text.invariant) in
    (λ _. big, λ _. refl)

pub loop-text-preserved : goal.loop-text-preserved
loop-text-preserved c =
    let more = total_more c.args.texts.now c.loop-text.text-index c.text-item.result (omega arith) c.text-item.is in
    let same = ap length c.as_slice-len.ensures in
    omega (arith, more, same, c.loop-text.invariant)
