-- One more word.
use Rattle.std.proofs.Common.{◌∷◌, [], length-append, arith}
use Rattle.droid_pattern.proofs.ClassLemmas.{set_more}
use Rattle.droid_pattern.proofs.class_set.extend.Goals as goal

pub loop-place-preserved : goal.loop-place-preserved
loop-place-preserved c =
    let long = length-append c.loop-place.bits (c.word_of.result ∷ []) in
    rw c.in_ok-push.ensures.added (
      set_more c.args.direction c.args.bytes.now c.args.class c.loop-place.bits c.word_of.result c.loop-place.place c.loop-place.invariant.1 c.word_of.ensures c.loop-place.invariant.0,
      omega (arith, c.loop-place.invariant.1),
    )
