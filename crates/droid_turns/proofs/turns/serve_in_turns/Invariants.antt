use Rattle.std.specs.Prelude.{◌≡◌, []}
use Rattle.droid_turns.specs.Halls.{HasRooms}
use Rattle.droid_turns.specs.Steps.{Goes}
use Rattle.droid_turns.proofs.HallSteps.{IsBetween}
use Rattle.droid_turns.proofs.turns.serve_in_turns.Given as goal

abbrev pub invariant-loop : goal.invariant-loop
invariant-loop g l = record {
  rooms : HasRooms l.rules.seats l.hall;
  first : l.hall.served.items ≡ [];
  goes : Goes g.C.Connections.does g.H.Handler.handles g.H.Handler.settles l.fn.connections l.fn.handler l.connections l.handler (IsBetween l.rules l.hall l.counter);
}
