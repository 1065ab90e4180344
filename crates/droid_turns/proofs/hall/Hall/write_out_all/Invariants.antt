use Rattle.std.specs.Prelude.{◌≡◌, length}
use Rattle.droid_turns.specs.Halls.{HasRooms, Heard, IsWriting, LeadsInTurn, Served}
use Rattle.droid_turns.specs.Steps.{Moves}
use Rattle.droid_turns.specs.declared.rules.Rules.{Rules}
use Rattle.droid_turns.proofs.hall.Hall.write_out_all.Given as goal

abbrev pub invariant-loop-peer : goal.invariant-loop-peer
invariant-loop-peer g l = record {
  rooms : HasRooms l.seats l.self;
  time : l.self.time ≡ l.fn.self.time;
  opened : l.self.opened ≡ l.fn.self.opened;
  share : l.self.share ≡ l.fn.self.share;
  moves : (rules : Rules) → rules.idle ≡ l.idle → Moves g.C.Connections.does l.fn.connections l.connections
      (LeadsInTurn rules IsWriting (Served l.fn.self.share rules.idle l.fn.self.time) (Heard l.fn.self.share l.fn.self.time) (Served l.fn.self.share rules.idle l.fn.self.time) (Heard l.fn.self.share l.fn.self.time) l.fn.self l.self);
}

abbrev pub decreases-loop-peer : goal.decreases-loop-peer
decreases-loop-peer g l = length l.self.served.items
