use Rattle.std.specs.Prelude.{List, Contains, take}
use Rattle.droid_remote.specs.Events.{Fact}
use Rattle.droid_remote.specs.Moves.{Moves}
use Rattle.droid_remote.specs.Vouching.{IsVouched}
use Rattle.droid_remote.specs.declared.transfer.connection_steps.Stage.TheVariants.{All}
use Rattle.droid_remote.specs.declared.transfer.known_requests.KnownRequests.{KnownRequests}
use Rattle.droid_remote.proofs.transfer.connection_steps.write_waiting.Given as goal

abbrev pub invariant-loop-index : goal.invariant-loop-index
invariant-loop-index g l =
    (known : KnownRequests) (facts : List Fact) → IsVouched known facts → Moves g.C.Connection.does known (Contains l.waiting.items) facts All (take l.index l.waiting.items) l.fn.connection l.connection
