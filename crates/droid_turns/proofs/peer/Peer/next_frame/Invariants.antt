use Rattle.std.specs.Prelude.{◌≡◌, ◌+◌, ◌-◌, ◌*◌, ◌<◌, false, None}
use Rattle.droid_turns.specs.Peers.{IsWhole}
use Rattle.droid_turns.specs.Steps.{Moves}
use Rattle.droid_turns.proofs.ReadSteps.{ReadsSo}
use Rattle.droid_turns.proofs.peer.Peer.next_frame.Given as goal

abbrev pub invariant-loop-frame : goal.invariant-loop-frame
invariant-loop-frame g l = record {
  whole : IsWhole l.self;
  id : l.self.id ≡ l.fn.self.id;
  stays : l.self.leaving ≡ None;
  awake : l.self.drained ≡ false;
  queue : l.self.queue ≡ l.fn.self.queue;
  frames : l.self.frames ≡ l.fn.self.frames;
  within : l.fn.self.read < l.share * 65536 + 65536 → l.self.read < l.share * 65536 + 65536;
  moves : Moves g.C.Connections.does l.fn.connections l.connections (ReadsSo l.now l.fn.self l.self);
}

abbrev pub decreases-loop-frame : goal.decreases-loop-frame
decreases-loop-frame g l = l.share * 65536 - l.self.read
