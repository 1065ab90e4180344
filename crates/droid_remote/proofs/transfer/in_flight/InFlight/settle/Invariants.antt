use Rattle.std.specs.Prelude.{◌≡◌, drop, take}
use Rattle.droid_remote.specs.Calls.{Settles, Wherever}
use Rattle.droid_remote.proofs.transfer.in_flight.InFlight.settle.Given as goal

abbrev pub invariant-loop : goal.invariant-loop
invariant-loop g l = record {
  settles : Wherever l.fn.self (λ known facts. Settles g.C.Connection.does known (take l.counter l.fn.self.waiting.items) facts l.fn.self l.self);
  left : l.self.waiting.items ≡ drop l.counter l.fn.self.waiting.items;
}
