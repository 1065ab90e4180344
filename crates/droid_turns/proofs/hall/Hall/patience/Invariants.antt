use Rattle.std.specs.Prelude.{take}
use Rattle.std.specs.List.{AllByRecursion}
use Rattle.droid_turns.specs.Halls.{IsPatient}
use Rattle.droid_turns.proofs.hall.Hall.patience.Given as goal

abbrev pub invariant-loop-peer : goal.invariant-loop-peer
invariant-loop-peer l = AllByRecursion (IsPatient l.idle l.self.time l.limit) (take l.peer-index l.self.waiting.items)
