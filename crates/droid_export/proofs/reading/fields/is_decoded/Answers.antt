use Rattle.std.proofs.Common.{◌∙◌, arith}
use Rattle.std.proofs.lemmas.Bool.{ltb-true}
use Rattle.std.proofs.lemmas.List.{length-set}
use Rattle.hex.proofs.Pairs.{decode_done, decode_sized-pairs}
use Rattle.droid_export.proofs.Digits.{all_digits, one_more}
use Rattle.droid_export.proofs.reading.fields.is_decoded.Goals as goal

pub loop-place-preserved : goal.loop-place-preserved
loop-place-preserved c = (
  length-set _ _ _ ∙ c.loop-place.invariant.0,
  one_more c.loop-place.most c.max-most.result c.args.text.now c.loop-place.bytes c.loop-place.place c.digit_of-high.result c.digit_of-low.result _
      (omega (arith, c.loop-place.invariant.0)) (omega (arith, c.loop-place.invariant.0)) c.digit_of-high.ensures c.digit_of-low.ensures
      (all_digits c.loop-place.most c.max.result c.max-most.result c.digit_of-high.result c.digit_of-low.result c.max.ensures c.max-most.ensures)
      (λ h l. omega (arith, h, l)) c.loop-place.invariant.1,
)

pub returns : goal.returns
returns c = λ below.
    decode_sized-pairs _ _ c.if-text-ne0.false c.if-text-bytes.false
    ∙ decode_done c.args.text.now c.loop-place.bytes c.loop-place.place (omega (arith, c.loop-place.invariant.0)) (omega (arith, c.loop-place.invariant.0))
    (c.loop-place.invariant.1 (ltb-true c.loop-place.most 16 below))
