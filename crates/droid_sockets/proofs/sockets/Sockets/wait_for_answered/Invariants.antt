use Rattle.std.specs.Prelude.{◌≡◌}
use Rattle.droid_sockets.proofs.sockets.Sockets.wait_for_answered.Given as goal

abbrev pub invariant-loop : goal.invariant-loop
invariant-loop g l = l.self.tally ≡ l.fn.self.tally
