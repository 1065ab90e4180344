use Rattle.std.specs.Prelude.{◌≡◌, ◌++◌, length}
use Rattle.droid_turns.specs.Peers.{IsWhole, unread}
use Rattle.droid_turns.specs.Steps.{Moves}
use Rattle.droid_turns.proofs.WriteSteps.{SendsSo}
use Rattle.droid_turns.proofs.peer.Peer.send.Given as goal

abbrev pub invariant-loop-connections : goal.invariant-loop-connections
invariant-loop-connections g l = record {
  whole : IsWhole l.self;
  id : l.self.id ≡ l.fn.self.id;
  drained : l.self.drained ≡ l.fn.self.drained;
  leaving : l.self.leaving ≡ l.fn.self.leaving;
  read : l.self.read ≡ l.fn.self.read;
  frames : l.self.frames ≡ l.fn.self.frames;
  held : l.self.feed.bytes ++ unread l.self ≡ l.fn.self.feed.bytes ++ unread l.fn.self;
  moves : Moves g.C.Connections.does l.fn.connections l.connections (SendsSo l.now l.fn.self l.self);
}

abbrev pub decreases-loop-connections : goal.decreases-loop-connections
decreases-loop-connections g l = length l.self.queue.bytes
