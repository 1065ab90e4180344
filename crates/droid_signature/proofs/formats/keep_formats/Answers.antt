-- One more format.
use Rattle.std.proofs.Common.{take, arith}
use Rattle.droid_signature.specs.Formats.{placed}
use Rattle.droid_signature.proofs.Keepings.{keeps_more}
use Rattle.droid_signature.proofs.formats.keep_formats.Goals as goal

pub loop-place-preserved : goal.loop-place-preserved
loop-place-preserved c =
    let i = c.loop-place.place in
    keeps_more c.args.formats.now i c.index-formats-place.result c.keep.new.self (omega arith) c.index-formats-place.is (c.in_ok-keep.ensures (placed (take i c.args.formats.now)) c.loop-place.invariant)
