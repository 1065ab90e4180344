-- Eight SHA-256s, in two halves of four lanes each.
use Rattle.std.specs.Prelude.{ℕ, ◌-◌, List, nat_lt, MatchBool}
use Rattle.droid_hash.specs.Sha256.{Holds}
use Rattle.droid_hash.specs.declared.sha256_eight.Sha256Eight.{Sha256Eight}

-- lane j of the eight holds these bytes: lane j of the first half, or lane j - 4 of the second
unfoldable pub HoldsOf : Sha256Eight → ℕ → List ℕ → Type 0
HoldsOf eight j bytes = MatchBool (nat_lt j 4) (Holds eight.low j bytes) (Holds eight.high (j - 4) bytes)
