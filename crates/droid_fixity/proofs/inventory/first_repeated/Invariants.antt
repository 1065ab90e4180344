use Rattle.std.proofs.Common.{◌<◌, ℕ, true}
use Rattle.droid_fixity.specs.Inventories.{IsBeforeAt}
use Rattle.droid_fixity.proofs.inventory.first_repeated.Given as goal

abbrev pub invariant-loop-place : goal.invariant-loop-place
invariant-loop-place l = (k : ℕ) → 0 < k → k < l.place → IsBeforeAt l.items k true
