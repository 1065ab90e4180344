use Rattle.std.specs.Prelude.{◌≡◌, ◌++◌, List, length}
use Rattle.droid_turns.specs.Halls.{HasRooms, Heard, HearsEach, Looked}
use Rattle.droid_turns.specs.Steps.{Goes}
use Rattle.droid_turns.specs.declared.peer.Peer.{Peer}
use Rattle.droid_turns.specs.declared.rules.Rules.{Rules}
use Rattle.droid_turns.proofs.hall.Hall.hear_all.Given as goal

abbrev pub invariant-loop-peer : goal.invariant-loop-peer
invariant-loop-peer g l = record {
  rooms : HasRooms l.seats l.self;
  time : l.self.time ≡ l.fn.self.time;
  opened : l.self.opened ≡ l.fn.self.opened;
  share : l.self.share ≡ l.fn.self.share;
  others : (later : List Peer) × (l.fn.self.waiting.items ≡ l.self.waiting.items ++ later);
  goes : (rules : Rules) → Goes g.C.Connections.does g.H.Handler.handles g.H.Handler.settles l.fn.connections l.fn.handler l.connections l.handler
      (HearsEach rules (Heard l.fn.self.share l.fn.self.time) (Looked l.fn.self.time) l.fn.self l.self);
}

abbrev pub decreases-loop-peer : goal.decreases-loop-peer
decreases-loop-peer g l = length l.self.waiting.items
