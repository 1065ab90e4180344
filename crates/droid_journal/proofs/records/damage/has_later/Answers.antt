use Rattle.std.proofs.Common.{ℕ, ◌+◌, ◌<◌, ◌≤◌, List, length, drop, inl, inr, arith}
use Rattle.std.proofs.lemmas.Bool.{cases_lt}
use Rattle.std.proofs.lemmas.List.{length-drop}
use Rattle.droid_journal.specs.Chains.{HasLater, StandsLater}
use Rattle.droid_journal.specs.declared.records.key.Key.{Key}
use Rattle.droid_journal.proofs.RecordLaws.{stands_short}
use Rattle.droid_journal.proofs.records.damage.has_later.Goals as goal

nowhere : (key : Key) (at : ℕ) (bytes : List ℕ) (n : ℕ) → length bytes ≤ n → ((k : ℕ) → k < n → StandsLater key (at + k) (drop k bytes) → ⊥) → HasLater key at bytes → ⊥
nowhere key at bytes n all none later =
    elim (cases_lt later.0 n) [
      | inl lt ↦ none later.0 lt later.1
      | inr le ↦ stands_short key (drop later.0 bytes) (at + later.0) (omega (arith, length-drop later.0 bytes)) later.1
    ]

pub returns : goal.returns
returns c = (λ is. absurd cc, λ later. absurd (nowhere c.args.key c.args.at c.args.bytes.now c.loop-place.place (omega arith) c.loop-place.invariant later))
