-- One more byte.
use Rattle.std.proofs.Common.{◌∙◌}
use Rattle.droid_signature_pattern.proofs.RangeTexts.{any_more}
use Rattle.droid_signature_pattern.proofs.range_texts.push_any.Goals as goal

pub loop-place-preserved : goal.loop-place-preserved
loop-place-preserved c = c.in_ok-push_range.ensures ∙ any_more c.args.text.now.items c.loop-place.text.items c.loop-place.place c.loop-place.invariant
