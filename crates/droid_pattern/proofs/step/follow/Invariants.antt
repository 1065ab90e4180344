-- The places after the first bytes of the literal.
use Rattle.droid_pattern.specs.Positions.{AreSetsOf, IsChain}
use Rattle.droid_pattern.proofs.step.follow.Given as goal

abbrev pub invariant-loop-place : goal.invariant-loop-place
invariant-loop-place l = AreSetsOf l.direction l.bytes l.sets.items × IsChain l.direction l.bytes l.literal l.place l.fn.bits l.bits
