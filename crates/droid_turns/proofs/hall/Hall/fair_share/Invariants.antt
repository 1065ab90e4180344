use Rattle.std.specs.Prelude.{◌≡◌, ◌≤◌, take}
use Rattle.droid_turns.specs.Halls.{having}
use Rattle.droid_turns.proofs.hall.Hall.fair_share.Given as goal

abbrev pub invariant-loop-peer : goal.invariant-loop-peer
invariant-loop-peer l = record {
  is : l.having ≡ having (take l.peer-index l.self.waiting.items);
  few : l.having ≤ l.peer-index;
}
