-- One more position, and all of them.
use Rattle.std.proofs.Common.{◌≡◌, true, sym, arith}
use Rattle.droid_signature_pattern.specs.Positions.{has_position}
use Rattle.droid_signature_pattern.proofs.FirstPositions.{one_further}
use Rattle.droid_signature_pattern.proofs.positions.see_each.Goals as goal

pub loop-inner-preserved : goal.loop-inner-preserved
loop-inner-preserved c = one_further (λ position. has_position position c.args.fragments.now ≡ true) c.loop-inner.inner c.loop-inner.invariant (sym c.if-not-has_position.ensures)

pub returns-clause-ok : goal.returns-clause-ok
returns-clause-ok c = λ position above below. c.loop-inner.invariant position above (omega (arith, below))
