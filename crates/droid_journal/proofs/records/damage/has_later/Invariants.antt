use Rattle.std.proofs.Common.{ℕ, ◌+◌, ◌<◌, drop}
use Rattle.droid_journal.specs.Chains.{StandsLater}
use Rattle.droid_journal.proofs.records.damage.has_later.Given as goal

abbrev pub invariant-loop-place : goal.invariant-loop-place
invariant-loop-place l = (k : ℕ) → k < l.place → StandsLater l.key (l.at + k) (drop k l.bytes) → ⊥
