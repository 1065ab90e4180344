use Rattle.std.specs.Prelude.{◌≡◌, ◌≤◌, length}
use Rattle.droid_remote.specs.Calls.{Tries, Wherever}
use Rattle.droid_remote.proofs.transfer.in_flight.InFlight.receive_later.Given as goal

abbrev pub invariant-loop : goal.invariant-loop
invariant-loop g l = record {
  tries : Wherever l.fn.self (λ known facts. (tries : Tries g.C.Connection.does known facts l.fn.self l.self) × (l.counter ≤ length tries.goes.events));
  same : l.self.waiting.items ≡ l.fn.self.waiting.items;
  known : l.self.known ≡ l.fn.self.known;
}
