use Rattle.std.proofs.Common.{take}
use Rattle.droid_tree.specs.Observation.{GoesOver}
use Rattle.droid_cmd_identify.proofs.named.take_each.Given as goal

abbrev pub invariant-loop-place : goal.invariant-loop-place
invariant-loop-place g l = GoesOver (λ old name new. g.T.Taker.takes old name.now new) l.fn.taker (take l.place l.names) l.taker
