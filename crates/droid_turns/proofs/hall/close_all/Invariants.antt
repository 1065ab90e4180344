use Rattle.std.specs.Prelude.{length}
use Rattle.droid_turns.specs.Halls.{ClosesSome}
use Rattle.droid_turns.specs.Steps.{Moves}
use Rattle.droid_turns.proofs.hall.close_all.Given as goal

abbrev pub invariant-loop-peer : goal.invariant-loop-peer
invariant-loop-peer g l = Moves g.C.Connections.does l.fn.connections l.connections (ClosesSome l.why l.fn.peers.items l.peers.items)

abbrev pub decreases-loop-peer : goal.decreases-loop-peer
decreases-loop-peer g l = length l.peers.items
