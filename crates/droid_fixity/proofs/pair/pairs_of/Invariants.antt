use Rattle.std.proofs.Common.{◌+◌, ◌-◌, ◌≤◌, ◌++◌, List, drop, length}
use Rattle.droid_fixity.specs.Pairing.{Merges}
use Rattle.droid_fixity.specs.declared.pair.Pair.{Pair}
use Rattle.droid_fixity.proofs.pair.pairs_of.Given as goal

-- what the pairs of the items that are left complete
abbrev pub invariant-loop-pair : goal.invariant-loop-pair
invariant-loop-pair l = (l.listed_at ≤ length l.listed) × (l.found_at ≤ length l.found)
    × ((rest : List Pair) → Merges l.listed_at l.found_at (drop l.listed_at l.listed) (drop l.found_at l.found) rest → Merges 0 0 l.listed l.found (l.pairs.items ++ rest))

abbrev pub decreases-loop-pair : goal.decreases-loop-pair
decreases-loop-pair l = (length l.listed - l.listed_at) + (length l.found - l.found_at)
