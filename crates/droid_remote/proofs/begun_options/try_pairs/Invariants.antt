use Rattle.std.proofs.Common.{◌≡◌}
use Rattle.droid_remote.specs.Calls.{Wherever}
use Rattle.droid_remote.specs.Probes.{Refuses}
use Rattle.droid_remote.proofs.begun_options.try_pairs.Given as goal

abbrev pub invariant-loop-turn : goal.invariant-loop-turn
invariant-loop-turn g l = record {
  same : l.sender ≡ record l.fn.sender { in_flight = l.sender.in_flight };
  refuses : Wherever l.fn.sender.in_flight (λ known facts. Refuses l.fn.sender.client l.fn.sender.name l.options g.C.Connection.does l.turn known facts l.fn.sender.in_flight l.sender.in_flight);
}
