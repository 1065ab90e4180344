use Rattle.std.specs.Prelude.{◌≡◌, ◌-◌, []}
use Rattle.droid_turns.specs.Halls.{HasRooms, LeadsInTurn, NoPeer, Unheard}
use Rattle.droid_turns.specs.Peers.{IsHearing}
use Rattle.droid_turns.specs.Steps.{Moves}
use Rattle.droid_turns.proofs.hall.Hall.admit.Given as goal

abbrev pub invariant-loop-alloc : goal.invariant-loop-alloc
invariant-loop-alloc g l = record {
  rooms : HasRooms l.rules.seats l.self;
  first : l.self.served.items ≡ [];
  time : l.self.time ≡ l.fn.self.time;
  share : l.self.share ≡ l.fn.self.share;
  moves : Moves g.C.Connections.does l.fn.connections l.connections (LeadsInTurn l.rules IsHearing (Unheard l.fn.self.time) NoPeer (Unheard l.fn.self.time) NoPeer l.fn.self l.self);
}

abbrev pub decreases-loop-alloc : goal.decreases-loop-alloc
decreases-loop-alloc g l = 18446744073709551615 - l.self.opened
