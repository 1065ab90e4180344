use Rattle.std.specs.Prelude.{◌≡◌, ◌+◌, ◌*◌, ◌<◌, false}
use Rattle.droid_turns.specs.Peers.{HearsSo, IsWhole}
use Rattle.droid_turns.specs.Steps.{Goes}
use Rattle.droid_turns.proofs.peer.Peer.answer_some.Given as goal

abbrev pub invariant-loop : goal.invariant-loop
invariant-loop g l = record {
  whole : IsWhole l.self;
  id : l.self.id ≡ l.fn.self.id;
  awake : l.self.drained ≡ false;
  within : l.fn.self.read < l.share * 65536 + 65536 → l.self.read < l.share * 65536 + 65536;
  goes : Goes g.C.Connections.does g.H.Handler.handles g.H.Handler.settles l.fn.connections l.fn.handler l.connections l.handler (HearsSo l.now l.fn.self l.self l.counter);
}
