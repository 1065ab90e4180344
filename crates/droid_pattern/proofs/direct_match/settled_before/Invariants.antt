-- The cells that are left decide.
use Rattle.std.proofs.Common.{◌↔◌, ◌≤◌, ℕ, List, length}
use Rattle.droid_pattern.proofs.TailLemmas.{Ends}
use Rattle.droid_pattern.proofs.direct_match.settled_before.Given as goal

abbrev pub invariant-loop-rest : goal.invariant-loop-rest
invariant-loop-rest l = record {
  shrinks : length l.rest ≤ length l.initial.rest;
  inside : l.place ≤ length l.bytes;
  so_far : (pool : List ℕ) → Ends pool l.cells l.bytes l.end ↔ Ends pool l.rest l.bytes l.place;
}

abbrev pub decreases-loop-rest : goal.decreases-loop-rest
decreases-loop-rest l = length l.rest
