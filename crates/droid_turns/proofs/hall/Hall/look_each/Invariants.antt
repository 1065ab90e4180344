use Rattle.std.specs.Prelude.{◌≡◌, length}
use Rattle.droid_turns.specs.Halls.{HasRooms, LeadsInTurn, Looked, Unheard}
use Rattle.droid_turns.specs.Peers.{IsHearing}
use Rattle.droid_turns.specs.Steps.{Moves}
use Rattle.droid_turns.specs.declared.rules.Rules.{Rules}
use Rattle.droid_turns.proofs.hall.Hall.look_each.Given as goal

abbrev pub invariant-loop-peer : goal.invariant-loop-peer
invariant-loop-peer g l = record {
  rooms : HasRooms l.seats l.self;
  time : l.self.time ≡ l.fn.self.time;
  share : l.self.share ≡ l.fn.self.share;
  moves : (rules : Rules) → Moves g.C.Connections.does l.fn.connections l.connections
      (LeadsInTurn rules IsHearing (Unheard l.fn.self.time) (Looked l.fn.self.time) (Unheard l.fn.self.time) (Looked l.fn.self.time) l.fn.self l.self);
}

abbrev pub decreases-loop-peer : goal.decreases-loop-peer
decreases-loop-peer g l = length l.self.waiting.items
