use Rattle.std.proofs.Common.{◌++◌, List, ℕ, subst}
use Rattle.droid_hash.specs.Scanning.{Scanned}
use Rattle.droid_hash.proofs.hash_lanes.HashLanes.advance.Goals as goal

pub returns-clause-taken : goal.returns-clause-taken
returns-clause-taken c = λ j low bytes held.
    subst (λ (p : List ℕ). Scanned c.update.new.self j (bytes ++ p)) (c.fronts.ensures j low) (c.update.ensures.taken j low bytes held)
