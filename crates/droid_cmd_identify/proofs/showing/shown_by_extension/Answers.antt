use Rattle.std.proofs.Common.{[]}
use Rattle.std.proofs.lemmas.List.{append-nil, drop_all}
use Rattle.droid_cmd_identify.proofs.showing.shown_by_extension.Goals as goal

pub returns : goal.returns
returns c = λ all.
    rw append-nil at ((c.loop-puid.invariant all).1 [] (rw (drop_all c.loop-puid.puid-index c.args.puids.now c.loop-puid-test.false) tt))
