use Rattle.std.proofs.Common.{◌≡◌, ℕ, List, take}
use Rattle.droid_fixity.specs.Holding.{held, holder_among}
use Rattle.droid_fixity.proofs.holders.holders_of.Given as goal

abbrev pub invariant-loop-place : goal.invariant-loop-place
invariant-loop-place l = (hash : List ℕ) → held l.holders hash ≡ holder_among l.items (take l.place-index l.places) hash
