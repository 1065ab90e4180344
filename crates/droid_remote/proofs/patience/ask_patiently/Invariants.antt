use Rattle.droid_remote.specs.Calls.{Wherever}
use Rattle.droid_remote.specs.Patience.{Pausing}
use Rattle.droid_remote.proofs.patience.ask_patiently.Given as goal

abbrev pub invariant-loop : goal.invariant-loop
invariant-loop g l = Wherever l.fn.in_flight (λ known facts. Pausing g.C.Connection.does known l.frame l.counter facts l.fn.in_flight l.in_flight)
