use Rattle.std.specs.Prelude.{◌≡◌, ◌+◌, length}
use Rattle.droid_remote.specs.Calls.{Tries, Wherever}
use Rattle.droid_remote.specs.Stages.{AreIn}
use Rattle.droid_remote.proofs.transfer.in_flight.InFlight.drain.Given as goal

abbrev pub invariant-loop : goal.invariant-loop
invariant-loop g l = record {
  tries : Wherever l.fn.self (λ known facts. Tries g.C.Connection.does known facts l.fn.self l.self);
  within : AreIn l.self.waiting.items l.fn.self.waiting.items;
  left : length l.self.waiting.items + l.counter ≡ length l.fn.self.waiting.items;
}
